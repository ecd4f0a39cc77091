-- What the code hands on of a new tag and of a new OTC: each may be none.
use Rattle.std.specs.Prelude.{cond, ℕ, leb}
use Rattle.std.specs.Prelude as std
use Rattle.std.proofs.Math.Option.{Option, none, some}
use Rattle.rules.specs.Settings.{invalid}

-- The state that a tag is to tell: 3, unavailable, stands for no tag.
unfoldable pub told_tag : ℕ → Option ℕ
told_tag state = cond (leb state invalid) (some state) none

-- The AS that a new OTC is to name, or none.
unfoldable pub told_otc : std.Option ℕ → Option ℕ
told_otc (std.Some asn) = some asn
told_otc std.None = none
