-- Handing a piece over, from feed to feed: nothing of it, some of it, a write that fails, and all of it. A machine that begins is ready.
use Prim.Native.Nat.{ℕ, ◌+◌, ◌-◌, ◌≤◌}
use mathlib.Core.Path.{◌≡◌, refl, sym, subst}
use Rattle.std.specs.Prelude.{Ok, Err}
use native.Mathlib.Omega.{arith}
use mathlib.Core.List.{List}
use lib.ListN.{length, take, drop}
use lib.Seq.{take_all}
use Rattle.octets.proofs.Slices.{tail_length}
use Rattle.desk_lines.specs.declared.state.Progress.{Progress}
use Rattle.desk_lines.specs.declared.state.State.{State}
use Rattle.input_lines.specs.Lines.{held_max}
use Rattle.input_lines.proofs.Lining.{holds-none}
use Rattle.desk_memory.specs.Sizes.{tables_max}
use Rattle.desk_memory.proofs.ByKind.{keeps-none}
use Rattle.desk_lines.specs.Machine.{begun, emptied, Ready, Consumed, Progressed, HandedOver}
use Rattle.desk_lines.proofs.Feeding.{consumed-none, consumed_then, consumed-emptied, taken_next}

-- Of a piece x the bytes before `at` are consumed, and nothing is left in `out`.
pub record Handing (s : State) (t l x : List ℕ) (at : ℕ) (s' : State) (t' l' : List ℕ) : Type 0 where
  pub consumed : Consumed s t l (take at x) s' t' l'
  pub within : at ≤ length x
  pub empty : s'.wrote ≡ 0

pub handing_start : {s : State} {t l : List ℕ} (x : List ℕ) → Ready s t l → s.wrote ≡ 0 → Handing s t l x 0 s t l
handing_start {s} {t} {l} x R e = record { consumed = consumed-none s t l R; within = omega arith; empty = e }

module _ {s s' : State} {t l x t' l' : List ℕ} {at : ℕ} (H : Handing s t l x at s' t' l') where
  -- The next bytes, of those that `&x[at..]` lends, are fed, and what they say is taken away.
  pub handing_on_lem : {o : List ℕ} {r : Progress} {t'' l'' o'' : List ℕ} {s'' : State} → Progressed s' t' l' o (take (length x - at) (drop at x)) r t'' l'' o''
      → s'' ≡ emptied r.state → Handing s t l x (at + r.taken) s'' t'' l''
  handing_on_lem {r = r} {t''} {l''} P e =
      subst (λ (z : State). Handing s t l x (at + r.taken) z t'' l'') (sym e)
      (record {
        consumed =
            subst (λ (p : List ℕ). Consumed s t l p (emptied r.state) t'' l'') (taken_next at r.taken x)
            (consumed_then H.consumed (consumed-emptied P.fed.consumed));
        within = omega (arith, P.within, tail_length x at, H.within);
        empty = refl;
      })

  -- A write failed.
  pub handing_broken : HandedOver s t l x (Err s') t' l'
  handing_broken = record { whole = tt; ready = H.consumed.ready; empty = H.empty }

  -- The whole piece is consumed.
  pub handing_end : length x ≤ at → HandedOver s t l x (Ok s') t' l'
  handing_end h =
      record {
        whole = subst (λ (p : List ℕ). Consumed s t l p s' t' l') (take_all at x h) H.consumed;
        ready = H.consumed.ready;
        empty = H.empty;
      }

pub ready-begun : {s : State} {tables line : List ℕ} → s ≡ begun → length tables ≡ tables_max → length line ≡ held_max → Ready s tables line
unfolding begun
ready-begun e t l = rw e (record { holds = holds-none l; keeps = keeps-none refl refl t })
