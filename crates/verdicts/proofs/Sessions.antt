-- The AS numbers of a valid session.
use mathlib.Core.Path.{◌≡◌}
use mathlib.Core.Bool.{true, not, ◌&&◌}
use Prim.Native.Nat.{ℕ, ◌≤◌}
use lib.Dec.{leb, eqb}
use borrow.Author.Tests.{leb-true}
use Rattle.rules.specs.Settings.{as_ok, role_ok, mode_ok, administration_ok, session_ok, local_as, remote_as, local_role}
use Rattle.rules.specs.declared.Session.{Session}
use Rattle.rules.proofs.Lists.{and_left, and_right}

-- "AS numbers 1 to 4,294,967,295": neither AS of a valid session is 0.
as_some : (n : ℕ) → as_ok n ≡ true → 1 ≤ n
unfolding as_ok
as_some n e = leb-true 1 n (and_left (leb 1 n) (leb n 4294967295) e)

pub session_ases : (s : Session) → session_ok s ≡ true → (1 ≤ local_as s) × (1 ≤ remote_as s)
unfolding session_ok
session_ases s e =
    let local = as_ok (local_as s) in
    let remote = as_ok (remote_as s) in
    let apart = local && remote && not (eqb (local_as s) (remote_as s)) in
    let moded = and_left (apart && role_ok (local_role s) && mode_ok s.mode) (administration_ok s) e in
    let role = and_left (apart && role_ok (local_role s)) (mode_ok s.mode) moded in
    let both = and_left (local && remote) (not (eqb (local_as s) (remote_as s))) (and_left apart (role_ok (local_role s)) role) in
    (as_some (local_as s) (and_left local remote both), as_some (remote_as s) (and_right local remote both))
