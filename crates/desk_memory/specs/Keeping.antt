-- What the desk keeps as the definition's desk.
use Rattle.std.specs.Prelude.{ℕ, ◌%◌, ◌≤◌, ◌≡◌, Bool, cond, List, length, take, drop, Some, None, Err}
use Rattle.std.specs.Prelude as std
use Rattle.std.proofs.Math.Option.{Option, none, some}
use Rattle.rules.specs.Origin.{ipv4, ipv6, vrp_size, vrps}
use Rattle.rules.specs.Desk.{Desk, session_in, frame_answer, frame_field, frame_next}
use Rattle.rules.specs.declared.Refusal.TheVariants.{Unreadable}
use Rattle.rules.specs.declared.Session.{Session}
use Rattle.vrp_tables.specs.Scan.{GoodTable}
use Rattle.desk_memory.specs.declared.kinds.Ip.{Ip}
use Rattle.desk_memory.specs.declared.kinds.Ip.TheVariants.{V4, V6}
use Rattle.desk_memory.specs.declared.kinds.Kind.{Kind}
use Rattle.desk_memory.specs.declared.kinds.Kind.TheVariants.{Session as A_session, Receipt, Sending, Vrp}
use Rattle.frames.specs.Replying.{Tells, plain, dashed, was_done}
use Rattle.frames.specs.declared.reply.Outcome.{Outcome}
use Rattle.desk_memory.specs.declared.kept.Kept.{Kept}
use Rattle.desk_memory.specs.Sizes.{table_max, tables_max}

-- The memory of each family's table.
abbrev pub memory4 : List ℕ → List ℕ
memory4 tables = take (table_max ipv4) tables

abbrev pub memory6 : List ℕ → List ℕ
memory6 tables = drop (table_max ipv4) tables

abbrev pub memory_of : Ip → List ℕ → List ℕ
memory_of V4 tables = memory4 tables
memory_of V6 tables = memory6 tables

-- How many bytes of a family's table are used.
abbrev pub used_of : Ip → Kept → ℕ
used_of V4 k = k.used
used_of V6 k = k.used6

-- The code's option says the session in force, or none.
unfoldable pub told_session : std.Option Session → Option Session
told_session (Some s) = some s
told_session None = none

-- The session in force, and the VRPs of as many bytes of each table as are used.
unfoldable pub desk_of : Kept → List ℕ → Desk
desk_of k tables =
    record {
      session = told_session k.session;
      table = vrps ipv4 (take k.used (memory4 tables));
      table6 = vrps ipv6 (take k.used6 (memory6 tables));
    }

-- One family's table: the bytes used are whole records, none of them bad, and there is room for 4,096.
pub record TableKept (w used : ℕ) (table : List ℕ) : Type 0 where
  pub room : length table ≡ table_max w
  pub within : used ≤ table_max w
  pub whole : used % vrp_size w ≡ 0
  pub good : GoodTable w (take used table)

-- Both tables.
pub record Keeps (k : Kept) (tables : List ℕ) : Type 0 where
  pub room : length tables ≡ tables_max
  pub four : TableKept ipv4 k.used (memory4 tables)
  pub six : TableKept ipv6 k.used6 (memory6 tables)

-- What is told of a frame is its answer and its fourth field.
abbrev pub TellsFrame : Desk → List ℕ → List ℕ → Outcome → Type 0
TellsFrame d f made outcome = Tells (frame_answer d f) (frame_field f (frame_answer d f)) made outcome

-- What is told of a frame that needs a session, where there is none: a receipt has its fourth field all the same.
abbrev pub without_session : Kind → Outcome
without_session A_session = plain (Err Unreadable)
without_session (Receipt ip) = dashed Unreadable
without_session Sending = plain (Err Unreadable)
without_session (Vrp ip) = plain (Err Unreadable)

-- Whether a frame was taken is what the definition says.
abbrev pub Agrees : Desk → List ℕ → Bool → Type 0
Agrees d f taken = was_done (frame_answer d f) ≡ taken

-- What is kept after a session frame: its session, if it was taken, else none.
unfoldable pub kept_session : Kept → List ℕ → Bool → Kept
kept_session k f taken = record { used = k.used; used6 = k.used6; session = cond taken (Some (session_in f)) None }

-- What is kept after a frame is what the definition says, and the tables stay good.
pub record KeptNext (k : Kept) (table f : List ℕ) (k' : Kept) (table' : List ℕ) : Type 0 where
  pub is : desk_of k' table' ≡ frame_next (desk_of k table) f (frame_answer (desk_of k table) f)
  pub keeps : Keeps k' table'
