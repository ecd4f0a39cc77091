-- A record more in the index, at any width.
use mathlib.Core.Path.{◌≡◌, refl, sym, ap, ◌∙◌}
use mathlib.Core.List.{List, ◌∷◌, map}
use Prim.Native.Nat.{ℕ, ◌+◌, ◌-◌, ◌*◌, ◌/◌, ◌^◌, ◌≤◌, ◌<◌}
use native.Mathlib.Omega.{arith}
use lib.ListN.{length, get_or, set, take, drop, length-set, length-map}
use lib.Pow.{pow_pos}
use lib.Seq.{get_or-set_same, get_or-set_other, get_or-drop}
use Rattle.std.specs.Prelude.{Some, None}
use Rattle.rules.specs.declared.Words.{Words}
use Rattle.rules.specs.Bytes.{big_endian, part}
use Rattle.rules.specs.Settings.{vrps_max}
use Rattle.rules.specs.Origin.{prefix_in, Vrp, vrp_size, vrp}
use Rattle.octets.specs.Numbers.{Octets}
use Rattle.octets.proofs.Numbers.{big_endian-below, octets_take}
use Rattle.vrps.specs.Widths.{Whole}
use Rattle.vrps.specs.Weighing.{Good}
use Rattle.vrps.proofs.Words.{prefix_width}
use Rattle.vrps.proofs.Records.{good_length}
use Rattle.vrp_tree.specs.Tree.{leading_bits, own, spot, grown, parts_of}
use Rattle.vrp_tree.specs.Memory.{node_at, record_at, Fits, Linked, none, more, Held}
use Rattle.index.specs.Steps.{nodes_max, Reached, Reach, Extended, stored_at, Puts}
use Rattle.vrp_tree.proofs.Numbers.{part_up, part-root, leading_bits_lem}
use Rattle.vrp_tree.proofs.Parts.{grown-le, grown-more, parts-some}
use Rattle.index.proofs.Growing.{tree-more}
use Rattle.index.proofs.Ways.{grown-there, grown-new}

-- ## The record by its bytes

-- A record that is not bad fits its width.
pub record-fits : {w : ℕ} → Whole w → (s : List ℕ) → Octets s → length s ≡ vrp_size w → Good w s → Fits w (vrp w s)
unfolding vrp part vrp_size
record-fits {w} whole s o e g =
    record {
      within = rw (prefix_width whole s (omega arith)) at (big_endian-below (take (w / 8) s) (octets_take s o (w / 8)));
      long = good_length w (vrp w s) g;
    }

-- A record that is not bad, its prefix read as words.
module _ {w : ℕ} (whole : Whole w) (s : List ℕ) (size : length s ≡ vrp_size w) (good : Good w s) (p : Words)
    (read : prefix_in (8 * length (take (w / 8) s)) p ≡ big_endian (take (w / 8) s)) where
  prefix-is : prefix_in w p ≡ (vrp w s).prefix
  unfolding vrp vrp_size part
  prefix-is = rw (prefix_width whole s (omega arith)) at read

  -- The part that the code goes down is the record's own.
  pub record-own : (len : ℕ) → len ≡ (vrp w s).len → 2 ^ len + leading_bits p len ≡ own w (vrp w s)
  record-own len e =
      let h = good_length w (vrp w s) good in
      ap (λ (n : ℕ). 2 ^ len + n) (sym (leading_bits_lem w p len (omega arith) whole.most)) ∙ rw (e, prefix-is) refl

-- ## The four stores of a record

module _ (t : List ℕ) (cap node most asn name : ℕ) (pos : 0 < node) (le : node ≤ cap) (fits : cap * 3 + 3 ≤ length t) where
  stored-size : length (stored_at t cap node most asn name) ≡ length t
  stored-size = simp length-set

  one : List ℕ
  one = set t (cap * 3) (node_at t node 2)

  two : List ℕ
  two = set one (cap * 3 + 1) most

  three : List ℕ
  three = set two (cap * 3 + 2) asn

  stored_name : get_or (stored_at t cap node most asn name) ((node - 1) * 3 + 2) 0 ≡ name
  unfolding one two three
  stored_name = get_or-set_same three ((node - 1) * 3 + 2) name 0 (simp length-set (omega arith))

  stored_other : (j : ℕ) → (j / 3 ≡ cap → ⊥) → (j ≡ (node - 1) * 3 + 2 → ⊥) → get_or (stored_at t cap node most asn name) j 0 ≡ get_or t j 0
  unfolding one two three
  stored_other j h ne =
      get_or-set_other three ((node - 1) * 3 + 2) j name 0 ne
      ∙ get_or-set_other two (cap * 3 + 2) j asn 0 (λ (e : j ≡ cap * 3 + 2). h (omega arith))
      ∙ get_or-set_other one (cap * 3 + 1) j most 0 (λ (e : j ≡ cap * 3 + 1). h (omega arith))
      ∙ get_or-set_other t (cap * 3) j (node_at t node 2) 0 (λ (e : j ≡ cap * 3). h (omega arith))

  stored-before : get_or (stored_at t cap node most asn name) (cap * 3 + 0) 0 ≡ node_at t node 2
  unfolding one two three
  stored-before =
      let z : cap * 3 + 0 ≡ cap * 3 = omega arith in
      get_or-set_other three ((node - 1) * 3 + 2) (cap * 3 + 0) name 0 (λ (e : cap * 3 + 0 ≡ (node - 1) * 3 + 2). omega arith)
      ∙ get_or-set_other two (cap * 3 + 2) (cap * 3 + 0) asn 0 (λ (e : cap * 3 + 0 ≡ cap * 3 + 2). omega arith)
      ∙ get_or-set_other one (cap * 3 + 1) (cap * 3 + 0) most 0 (λ (e : cap * 3 + 0 ≡ cap * 3 + 1). omega arith)
      ∙ rw z (get_or-set_same t (cap * 3) (node_at t node 2) 0 (omega arith))

  stored-most : get_or (stored_at t cap node most asn name) (cap * 3 + 1) 0 ≡ most
  unfolding one two three
  stored-most =
      get_or-set_other three ((node - 1) * 3 + 2) (cap * 3 + 1) name 0 (λ (e : cap * 3 + 1 ≡ (node - 1) * 3 + 2). omega arith)
      ∙ get_or-set_other two (cap * 3 + 2) (cap * 3 + 1) asn 0 (λ (e : cap * 3 + 1 ≡ cap * 3 + 2). omega arith)
      ∙ get_or-set_same one (cap * 3 + 1) most 0 (simp length-set (omega arith))

  stored-asn : get_or (stored_at t cap node most asn name) (cap * 3 + 2) 0 ≡ asn
  unfolding one two three
  stored-asn =
      get_or-set_other three ((node - 1) * 3 + 2) (cap * 3 + 2) name 0 (λ (e : cap * 3 + 2 ≡ (node - 1) * 3 + 2). omega arith)
      ∙ get_or-set_same two (cap * 3 + 2) asn 0 (simp length-set (omega arith))

-- ## The records before it

-- Memory that is the same from a triple on.
after : (cap : ℕ) (t t' : List ℕ) → drop (cap * 3) t' ≡ drop (cap * 3) t → (j : ℕ) → cap * 3 ≤ j → get_or t' j 0 ≡ get_or t j 0
after cap t t' e j h =
    let i : j ≡ cap * 3 + (j - cap * 3) = omega arith in
    ap (λ (k : ℕ). get_or t' k 0) i ∙ sym (get_or-drop (cap * 3) t' (j - cap * 3) 0) ∙ ap (λ (l : List ℕ). get_or l (j - cap * 3) 0) e
    ∙ get_or-drop (cap * 3) t (j - cap * 3) 0 ∙ ap (λ (k : ℕ). get_or t k 0) (sym i)

linked-same : {w : ℕ} (t t' : List ℕ) {vs : List Vrp} → ((cur d : ℕ) → cur ≤ length vs → d < 3 → record_at t' cur d ≡ record_at t cur d) → Linked w t vs → Linked w t' vs
linked-same t t' e none = none
linked-same t t' e (more {v} {vs} f e₀ e₁ e₂ ls) =
    more f (e (length vs + 1) 0 (omega arith) (omega arith) ∙ e₀) (e (length vs + 1) 1 (omega arith) (omega arith) ∙ e₁)
    (e (length vs + 1) 2 (omega arith) (omega arith) ∙ e₂) (linked-same t t' (λ cur d l k. e cur d (omega arith) k) ls)

-- Each record has at most 128 nodes of its own.
pub parts-few : {w : ℕ} {t : List ℕ} {vs : List Vrp} → w ≤ 128 → Linked w t vs → length (parts_of w vs) ≤ 1 + 128 * length vs
unfolding parts_of
parts-few h none = omega arith
parts-few {w} h (more {v} {vs} f e₀ e₁ e₂ ls) = omega (arith, parts-few h ls, grown-more v.len (own w v) (parts_of w vs), f.long)

-- ## A record more

module _ (w : ℕ) (v : Vrp) (t : List ℕ) (records nodes : ℕ) where
  -- Nothing is stored where there is no room in memory that holds the index.
  puts_none : ((vs : List Vrp) → Held w vs t → length vs ≡ records → length (parts_of w vs) ≡ nodes → records < vrps_max
      → length t / 3 < length (parts_of w (v ∷ vs)) + length (v ∷ vs)) → Puts w v t records nodes t None
  puts_none h = record {
    kept = λ z. refl;
    put = λ vs held n c few. record { full = λ z. h vs held n c few; held = λ m z. cc; count = λ m z. cc };
  }

  -- The refusals before the way: too few triples, too few for the nodes that are there; the others meet no index.
  pub puts_many : vrps_max ≤ records → Puts w v t records nodes t None
  puts_many h = puts_none (λ vs held n c few. absurd (omega arith))

  pub puts_past : length t / 3 ≤ records → Puts w v t records nodes t None
  puts_past h = puts_none (λ vs held n c few. omega arith)

  pub puts_short : length t / 3 - 1 - records < nodes → Puts w v t records nodes t None
  unfolding parts_of
  puts_short h = puts_none (λ vs held n c few. omega (arith, grown-le v.len (own w v) (parts_of w vs), held.room))

  pub puts_empty : nodes ≡ 0 → Puts w v t records nodes t None
  puts_empty h = puts_none (λ vs held n c few. absurd (omega (arith, parts-some w vs)))

  pub puts_large : w ≤ 128 → nodes_max < nodes → Puts w v t records nodes t None
  puts_large l h = puts_none (λ vs held n c few. absurd (omega (arith, parts-few l held.linked)))

  module _ (fits : Fits w v) {x len node left : ℕ} (e : x ≡ own w v) (f : len ≡ v.len) (r : Reach t x len nodes node left) where
    root : own w v / 2 ^ v.len ≡ 1
    root = part-root w v.prefix v.len fits.long fits.within

    some : 0 < own w v / 2 ^ left
    some = rw (part_up w v.prefix v.len left (omega (arith, r.within)) fits.long) (omega (arith, pow_pos (v.len - left)))

    module _ {vs : List Vrp} (held : Held w vs t) (c : length (parts_of w vs) ≡ nodes) where
      come : Reached (parts_of w vs) (own w v) left node
      come = (rw (e, f) at r).reached (map (own w) vs) (parts_of w vs) held.tree c root

      here : 0 < spot (parts_of w vs) (own w v / 2 ^ left)
      here = omega (arith, come.here, r.within)

      parts_are : parts_of w (v ∷ vs) ≡ grown left (own w v) (parts_of w vs)
      unfolding parts_of
      parts_are = grown-there (parts_of w vs) held.tree.up (own w v) v.len left (omega (arith, r.within)) (rw root (omega arith)) here

      parts-count : length (parts_of w (v ∷ vs)) ≡ nodes + left
      parts-count = ap length parts_are ∙ grown-new left (parts_of w vs) held.tree.up (own w v) some here come.ends ∙ rw c refl

    pub puts_full : records < length t / 3 → length t / 3 - 1 - records - nodes < left → Puts w v t records nodes t None
    puts_full i h = puts_none (λ vs held n c few. omega (arith, parts-count held c))

    module _ {t₁ : List ℕ} {last : ℕ} (x' : Extended t x left node nodes t₁ last) {cap most asn name : ℕ} (is : cap ≡ length t / 3 - 1 - records)
        (inside : records < length t / 3) (room : nodes + left ≤ cap) (e₁ : most ≡ v.most) (e₂ : asn ≡ v.asn) (e₃ : name ≡ records + 1) where
      puts_stored : Puts w v t records nodes (stored_at t₁ cap last most asn name) (Some (nodes + left))
      puts_stored = record {
        kept = λ z. cc;
        put = λ vs held n c few.
            let m = (rw e at x').made (map (own w) vs) (parts_of w vs) held.tree c some (come held c) in
            let p = parts_are held c in
            let tree = rw (← p) at m.0 in
            let count = parts-count held c in
            let pos : 0 < last = x'.within.0 in
            let le : last ≤ cap = omega (arith, x'.within) in
            let size = x'.size in
            let fit : cap * 3 + 3 ≤ length t₁ = omega arith in
            let at : spot (parts_of w (v ∷ vs)) (own w v) ≡ (last - 1) + 1 = rw p (omega (arith, m.1)) in
            let size₂ : length (stored_at t₁ cap last most asn name) ≡ length t = stored-size t₁ cap last most asn name pos le fit ∙ size in
            let mine : length (stored_at t₁ cap last most asn name) / 3 - (length vs + 1) ≡ cap = omega arith in
            record {
              full = λ z. cc;
              held = λ m z. record {
                tree = tree-more tree (stored_at t₁ cap last most asn name) (own w v) (last - 1) (stored-size t₁ cap last most asn name pos le fit) at
                    (stored_name t₁ cap last most asn name pos le fit ∙ rw (length-map vs (own w)) (omega arith))
                    (λ j l k. stored_other t₁ cap last most asn name pos le fit j (λ (q : j / 3 ≡ cap). omega arith) k);
                linked = more {v = v} {vs = vs} fits
                    (rw mine (stored-before t₁ cap last most asn name pos le fit ∙ tree.heads (own w v) (last - 1) at))
                    (rw mine (stored-most t₁ cap last most asn name pos le fit ∙ e₁))
                    (rw mine (stored-asn t₁ cap last most asn name pos le fit ∙ e₂))
                    (linked-same t (stored_at t₁ cap last most asn name)
                    (λ cur d l k. rw size₂
                    (stored_other t₁ cap last most asn name pos le fit ((length t / 3 - cur) * 3 + d)
                    (λ (q : ((length t / 3 - cur) * 3 + d) / 3 ≡ cap). omega arith)
                    (λ (q : (length t / 3 - cur) * 3 + d ≡ (last - 1) * 3 + 2). omega arith)
                    ∙ after (nodes + left) t t₁ x'.after ((length t / 3 - cur) * 3 + d) (omega arith)))
                    held.linked);
                room = rw size₂ (omega arith);
              };
              count = λ m z. cc;
            };
      }

      pub puts_done : {t₂ : List ℕ} → t₂ ≡ stored_at t₁ cap last most asn name → Puts w v t records nodes t₂ (Some (nodes + left))
      puts_done h = rw h puts_stored
