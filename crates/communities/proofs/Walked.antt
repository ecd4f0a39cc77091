-- A walk over a value, eight bytes at a time: the communities of what is left.
use Prim.Native.Nat.{ℕ, ◌+◌, ◌<◌}
use mathlib.Core.Path.{◌≡◌, sym, ap, ◌∙◌}
use mathlib.Core.List.{List, [], ◌∷◌, ◌++◌}
use native.Mathlib.Omega.{arith}
use lib.ListN.{length, length-append}
use Rattle.std.proofs.Common.{Bor, Some, None}
use Rattle.std.specs.Slice.Iter.{chunks_exact_steps, chunks_exact_rest, chunks_exact_size}
use Rattle.std.specs.declared.slice.ChunksExact.{ChunksExact}
use Rattle.rules.specs.Rows.{Row, by, with_item}
use Rattle.rules.specs.Changes.{communities}
use Rattle.rules.proofs.Rows.{chop-front, chop_stop, fit_none}

-- What is left to walk is a community and others.
pub record Walked (left c others : List ℕ) : Type 0 where
  pub is : left ≡ c ++ others
  pub eight : length c ≡ 8

pub communities-next : {left c others : List ℕ} → Walked left c others → communities left ≡ c ∷ communities others
unfolding communities by with_item
communities-next {left} {c} {others} w =
    ap communities w.is ∙ ap (λ (r : Row). r.items) (chop-front (by 8) c others (sym w.eight) (omega (arith, w.eight)))

pub walked-length : {left c others : List ℕ} → Walked left c others → length left ≡ 8 + length others
walked-length {left} {c} {others} w = omega (arith, ap length w.is, length-append c others, w.eight)

-- Too few bytes for one more.
pub communities-end : (left : List ℕ) → length left < 8 → communities left ≡ []
unfolding communities by
communities-end left h = ap (λ (r : Row). r.items) (chop_stop (by 8) left (fit_none (by 8) left h))

-- The chunks of eight bytes.
module _ (s t : ChunksExact ℕ) (e : chunks_exact_size s ≡ 8) where
  pub walked-next : (c : Bor (List ℕ)) → chunks_exact_steps s (Some c) t → Walked (chunks_exact_rest s) c.now (chunks_exact_rest t)
  walked-next c h = record { is = h.1.0; eight = h.1.1 ∙ e }

  pub walked-end : chunks_exact_steps s None t → length (chunks_exact_rest s) < 8
  walked-end h = omega (arith, h.1.0, e)
