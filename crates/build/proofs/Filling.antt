-- Record after record of a table, at any width.
use mathlib.Core.Path.{◌≡◌, refl, sym, ap, ◌∙◌, subst}
use mathlib.Core.List.{List, [], ◌∷◌, ◌++◌}
use Prim.Native.Nat.{ℕ, zero, suc, ◌+◌, ◌*◌, ◌≤◌, ◌<◌}
use native.Mathlib.Omega.{arith}
use lib.ListN.{length, get_or, set, length-set}
use Rattle.std.specs.Prelude.{Option, Some, None}
use Rattle.rules.specs.Settings.{vrps_max}
use Rattle.rules.specs.Origin.{Vrp, vrp, vrps, vrp_size}
use Rattle.vrps.specs.Weighing.{Good}
use Rattle.vrp_tables.specs.Scan.{GoodTable}
use Rattle.vrp_tables.proofs.Scans.{vrps-short, vrps-next, good-next}
use Rattle.vrp_tree.specs.Tree.{spot, parts_of, turned, newest}
use Rattle.vrp_tree.specs.Memory.{Tree, Held, none}
use Rattle.vrp_tree.proofs.Parts.{spot-le, spot-one, spot-new, spot-old, parts-le, parts-some, turned-length}
use Rattle.index.specs.Steps.{Put, Puts}
use Rattle.index.proofs.Answering.{newest-length}
use Rattle.build.specs.Filling.{Filled}

-- ## The root alone

-- The three numbers of the root.
abbrev pub rooted : List ℕ → List ℕ
rooted t = set (set (set t 0 0) 1 0) 2 0

rooted-length : (t : List ℕ) → length (rooted t) ≡ length t
rooted-length t = simp length-set

rooted-at : (t : List ℕ) → 3 ≤ length t → (d : ℕ) → d < 3 → get_or (rooted t) d 0 ≡ 0
rooted-at [] h d l = absurd (omega arith)
rooted-at (x ∷ []) h d l = absurd (omega arith)
rooted-at (x ∷ y ∷ []) h d l = absurd (omega arith)
rooted-at (x ∷ y ∷ z ∷ t) h zero l = refl
rooted-at (x ∷ y ∷ z ∷ t) h (suc zero) l = refl
rooted-at (x ∷ y ∷ z ∷ t) h (suc (suc zero)) l = refl
rooted-at (x ∷ y ∷ z ∷ t) h (suc (suc (suc d))) l = absurd (omega arith)

root-off : (x : ℕ) → 1 < x → spot (1 ∷ []) x ≡ 0
unfolding spot
root-off x l = spot-old [] 1 x (λ (e : 1 ≡ x). omega arith)

root-at : (x i : ℕ) → spot (1 ∷ []) x ≡ i + 1 → (i ≡ 0) × (x ≡ 1)
root-at x i e =
    let le : spot (1 ∷ []) x ≤ 1 = spot-le (1 ∷ []) x in
    let o : spot (1 ∷ []) 1 ≡ 1 = spot-new [] 1 in
    (omega arith, spot-one (1 ∷ []) x 1 (omega arith) (omega arith))

tree_start : (t : List ℕ) → 3 ≤ length t → Tree [] (1 ∷ []) (rooted t)
unfolding spot
tree_start t h =
    record {
      room = omega (arith, rooted-length t);
      root = spot-new [] 1;
      up = λ x b l p k. absurd (omega (arith, root-off (x * 2 + b) (omega arith)));
      held = λ x p. absurd (omega arith);
      kids = λ x i b l e.
          let f = root-at x i e in
          let j : i * 3 + b ≡ b = omega arith in
          rw (j, rooted-at t h b (omega arith)) (sym (root-off (x * 2 + b) (omega arith)));
      heads = λ x i e. let f = root-at x i e in let j : i * 3 + 2 ≡ 2 = omega arith in rw j (rooted-at t h 2 (omega arith));
    }

-- ## The run

-- The records before the bytes that are left are in the index, which has `nodes` nodes, and those left give what is wanted. The memory is as
-- long as it was.
pub record Run (w : ℕ) (table start t : List ℕ) (nodes : ℕ) (s : List ℕ) (records : ℕ) : Type 0 where
  pub good : GoodTable w s
  pub vs : List Vrp
  pub held : Held w vs t
  pub count : length (parts_of w vs) ≡ nodes
  pub number : length vs ≡ records
  pub left : turned (vrps w s) vs ≡ newest w table
  pub size : length t ≡ length start

pub run_start : {w : ℕ} (table t : List ℕ) → 3 ≤ length t → GoodTable w table → {s : List ℕ} → s ≡ table → Run w table (rooted t) (rooted t) 1 s 0
unfolding parts_of
run_start table t h g e =
    rw e (record {
      good = g;
      vs = [];
      held = record { tree = tree_start t h; linked = none; room = omega (arith, rooted-length t) };
      count = refl;
      number = refl;
      left = refl;
      size = refl;
    })

-- No triple.
pub run_none : (w : ℕ) (table t t' : List ℕ) → length t < 3 → Filled w table t t' None
run_none w table t t' h =
    record { full = λ z. omega (arith, parts-some w (newest w table)); held = λ n z. cc; count = λ n z. cc }

module _ {w : ℕ} {table start t : List ℕ} {nodes : ℕ} {s : List ℕ} {records : ℕ} (run : Run w table start t nodes s records) where
  -- No record is left.
  pub run_end : length s < vrp_size w → (t₀ : List ℕ) → Filled w table t₀ t (Some nodes)
  unfolding turned
  run_end h t₀ =
      let e : run.vs ≡ newest w table = rw (vrps-short w s h) at run.left in
      record {
        full = λ z. cc;
        held = λ n q. subst (λ (l : List Vrp). Held w l t) e run.held;
        count = λ n q. let c = run.count in rw (← e) (cc);
      }

  -- One is left.
  module _ (x rest : List ℕ) (next : s ≡ x ++ rest) (h : length x ≡ vrp_size w) where
    pub run-good : Good w x
    run-good = (good-next w x rest next h run.good).0

    onward : turned (vrps w rest) (vrp w x ∷ run.vs) ≡ newest w table
    unfolding turned
    onward = rw (vrps-next w x rest next h) at run.left

    all-records : length (vrps w table) ≡ length (vrps w rest) + length (vrp w x ∷ run.vs)
    all-records = sym (newest-length w table) ∙ ap length (sym onward) ∙ turned-length (vrps w rest) (vrp w x ∷ run.vs)

    -- The records so far are fewer than all.
    pub run-number : records < length (vrps w table)
    run-number = omega (arith, run.number, all-records)

    module _ (few : length (vrps w table) ≤ vrps_max) {t' : List ℕ} {made : Option ℕ} (p : Puts w (vrp w x) t records nodes t' made) where
      put : Put w (vrp w x) run.vs t t' made
      put = p.put run.vs run.held run.number run.count (omega (arith, run-number))

      pub run-next : {n : ℕ} → made ≡ Some n → length t' ≡ length t → Run w table start t' n rest (records + 1)
      run-next {n} m e =
          record {
            good = (good-next w x rest next h run.good).1;
            vs = vrp w x ∷ run.vs;
            held = put.held n m;
            count = put.count n m;
            number = omega (arith, run.number);
            left = onward;
            size = e ∙ run.size;
          }

      pub run-full : made ≡ None → (t₀ : List ℕ) → length t₀ ≡ length start → Filled w table t₀ t' None
      run-full z t₀ e =
          record {
            full = λ q.
                let l = rw onward at (parts-le w (vrps w rest) (vrp w x ∷ run.vs)) in
                omega (arith, put.full z, run.size, e, l, all-records);
            held = λ n q. cc;
            count = λ n q. cc;
          }
