-- The kinds of frames, by their first byte.
use Rattle.std.specs.Prelude.{ℕ, ◌≡◌, Option, Some, None}
use Rattle.rules.specs.Origin.{ipv4, ipv6}
use Rattle.rules.specs.Desk.{session_kind, receipt_kind, sending_kind, vrp_kind, receipt6_kind, vrp6_kind}
use Rattle.desk_memory.specs.declared.kinds.Ip.TheVariants.{V4, V6}
use Rattle.desk_memory.specs.declared.kinds.Ip.{Ip}
use Rattle.desk_memory.specs.declared.kinds.Kind.{Kind}
use Rattle.desk_memory.specs.declared.kinds.Kind.TheVariants.{Session, Receipt, Sending, Vrp}

-- The width of a family's prefixes in bits.
abbrev pub width_of : Ip → ℕ
width_of V4 = ipv4
width_of V6 = ipv6

-- The first byte of the frames of a kind.
abbrev pub first_byte : Kind → ℕ
first_byte Session = session_kind
first_byte (Receipt V4) = receipt_kind
first_byte (Receipt V6) = receipt6_kind
first_byte Sending = sending_kind
first_byte (Vrp V4) = vrp_kind
first_byte (Vrp V6) = vrp6_kind

-- The frames that begin with a byte are of this kind, or there are none.
abbrev pub Begins : ℕ → Option Kind → Type 0
Begins byte (Some kind) = byte ≡ first_byte kind
Begins byte None = (kind : Kind) → byte ≡ first_byte kind → ⊥
