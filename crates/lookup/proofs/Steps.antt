-- The steps of the look-up: one bit, the bits of an octet, all bits left, and the last node.
use Prim.Native.Nat.{ℕ, suc, ◌+◌, ◌-◌, ◌*◌, ◌/◌, ◌%◌, ◌^◌, ◌≤◌, ◌<◌}
use mathlib.Core.Path.{◌≡◌, refl, sym, ap, ◌∙◌, subst}
use mathlib.Core.Bool.{true, false}
use mathlib.Core.List.{List}
use native.Mathlib.Omega.{arith}
use lib.ListN.{get_or}
use lib.Pow.{shr-shr}
use Rattle.rules.specs.declared.Words.{Words}
use Rattle.rules.specs.Origin.{spelled}
use Rattle.vrps.proofs.Words.{octet_bit}
use Rattle.vrp_tree.specs.Tree.{leading_bits}
use Rattle.vrp_tree.specs.Memory.{node_at}
use Rattle.lookup.specs.Look.{outside, noted_of, look_of}
use Rattle.vrp_tree.specs.Memory.{values}
use Rattle.lookup.specs.Descent.{Ready, Stepped, Begins, Descended, Arrived}
use Rattle.lookup.proofs.Descents.{out-zero, look_off, look_end, look_suc, noted-count}

module _ (t : List ℕ) (len asn : ℕ) where
  -- Where no node is left, the bits left do not count.
  look_none : (q a b node seen : ℕ) → node ≡ 0 → look_of t len asn a q node seen ≡ look_of t len asn b q node seen
  look_none q a b node seen e = look_off t len asn q a node seen (out-zero t node e) ∙ sym (look_off t len asn q b node seen (out-zero t node e))

  module _ (b node seen : ℕ) where
    pub stepped_off : outside t node ≡ true → Stepped t len asn b node seen 0 seen
    stepped_off h = record {
      on = λ left q e. look_off t len asn q (suc left) node seen h ∙ sym (look_off t len asn q left 0 seen (out-zero t 0 refl));
      few = omega arith;
      count = omega arith;
    }

    pub stepped_in : outside t node ≡ false → {b' next head seen' : ℕ} → b' ≡ b → next ≡ get_or t ((node - 1) * 3 + b') 0 → next < values
        → head ≡ node_at t node 2 → seen' ≡ noted_of t len asn head seen → Stepped t len asn b node seen next seen'
    stepped_in h {b'} {next} {head} {seen'} e f l g s = record {
      on = λ left q k.
          look_suc t len asn q node seen h left
          ∙ ap (λ (n : ℕ). look_of t len asn left q n (noted_of t len asn (node_at t node 2) seen)) (ap (node_at t node) (k ∙ sym e) ∙ sym f)
          ∙ ap (look_of t len asn left q next) (ap (λ (n : ℕ). noted_of t len asn n seen) (sym g) ∙ sym s);
      few = l;
      count = omega (arith, s, noted-count t len asn head seen);
    }

  -- ## The bits of an octet

  module _ {octet left node seen : ℕ} where
    pub descended_start : node < values → Descended t len asn octet left node seen (left - 0) node seen
    descended_start l =
        let e : left ≡ left - 0 = omega arith in
        record { on = λ q b. ap (λ (n : ℕ). look_of t len asn n q node seen) e; few = l; count = omega arith }

    -- With k bits gone.
    module _ (k : ℕ) {here seen' : ℕ} (d : Descended t len asn octet left node seen (left - k) here seen') where
      pub descended_end : left - k ≡ left - 8 → Descended t len asn octet left node seen (left - 8) here seen'
      descended_end e = subst (λ (n : ℕ). Descended t len asn octet left node seen n here seen') e d

      pub descended_ready : Ready node (seen + 4 * left) → 0 < here → Ready here seen'
      descended_ready r p = (p, d.few, omega (arith, d.count, r.2))

      module _ (h : k < 8) (l : k < left) {node' seen'' : ℕ} (s : Stepped t len asn (octet / 2 ^ (7 - k) % 2) here seen' node' seen'') where
        one : left - k ≡ suc (left - suc k)
        one = omega arith

        pub descended_next : Descended t len asn octet left node seen (left - (k + 1)) node' seen''
        descended_next =
            let e : left - suc k ≡ left - (k + 1) = omega arith in
            record {
              on = λ q b.
                  d.on q b ∙ ap (λ (n : ℕ). look_of t len asn n q here seen') one ∙ s.on (left - suc k) q (b k h l)
                  ∙ ap (λ (n : ℕ). look_of t len asn n q node' seen'') e;
              few = s.few;
              count = omega (arith, d.count, s.count);
            }

        pub descended_none : node' ≡ 0 → Descended t len asn octet left node seen (left - 8) node' seen''
        descended_none z = record {
          on = λ q b. descended_next.on q b ∙ look_none q (left - (k + 1)) (left - 8) node' seen'' z;
          few = s.few;
          count = omega (arith, descended_next.count);
        }

  -- ## The last node

  module _ (node seen : ℕ) where
    pub arrived-off : outside t node ≡ true → Arrived t len asn node seen seen
    arrived-off h q = sym (look_off t len asn q 0 node seen h)

    pub arrived_in : outside t node ≡ false → {head r : ℕ} → head ≡ node_at t node 2 → r ≡ noted_of t len asn head seen → Arrived t len asn node seen r
    arrived_in h e s q = s ∙ ap (λ (n : ℕ). noted_of t len asn n seen) e ∙ sym (look_end t len asn q node seen h 0 refl)

  -- ## All bits left

  module _ (q left node seen : ℕ) where
    pub down-end : left ≡ 0 → {r : ℕ} → Arrived t len asn node seen r → r ≡ look_of t len asn left q node seen
    down-end e a = a q ∙ ap (λ (n : ℕ). look_of t len asn n q node seen) (sym e)

    module _ {octet node' seen' : ℕ} (b : Begins octet left q) (d : Descended t len asn octet left node seen (left - 8) node' seen') where
      pub down-none : node' ≡ 0 → seen' ≡ look_of t len asn left q node seen
      down-none z = sym (d.on q b ∙ look_off t len asn q (left - 8) node' seen' (out-zero t node' z))

      pub down_last : left ≤ 8 → {r : ℕ} → Arrived t len asn node' seen' r → r ≡ look_of t len asn left q node seen
      down_last l a =
          let e : left - 8 ≡ 0 = omega arith in
          sym (d.on q b ∙ ap (λ (n : ℕ). look_of t len asn n q node' seen') e ∙ sym (a q))

      pub down-on : {r : ℕ} → r ≡ look_of t len asn (left - 8) q node' seen' → r ≡ look_of t len asn left q node seen
      down-on a = a ∙ sym (d.on q b)

-- The octet of a prefix at a depth that 8 divides has the next bits of its leading bits.
pub octet_begins : (p : Words) (len left : ℕ) → left ≤ len → len ≤ 128 → (len - left) % 8 ≡ 0 → {octet : ℕ}
    → octet ≡ spelled p / 2 ^ (120 - 8 * ((len - left) / 8)) % 2 ^ 8 → Begins octet left (leading_bits p len)
unfolding leading_bits
octet_begins p len left h m d {octet} e k j l =
    let a : 128 - len + (left - suc k) ≡ 120 - 8 * ((len - left) / 8) + (7 - k) = omega arith in
    ap (λ (n : ℕ). n % 2) (shr-shr (spelled p) (128 - len) (left - suc k)) ∙ ap (λ (n : ℕ). spelled p / 2 ^ n % 2) a
    ∙ sym (octet_bit (spelled p) (120 - 8 * ((len - left) / 8)) (7 - k) (omega arith)) ∙ ap (λ (n : ℕ). n / 2 ^ (7 - k) % 2) (sym e)
