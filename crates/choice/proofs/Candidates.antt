-- One candidate as the code finds it: bad for its place, size or state, or for what its block holds; or read cleanly, with its keys.
use Prim.Native.Nat.{ℕ, ◌+◌, ◌-◌, ◌≤◌, ◌<◌}
use mathlib.Core.Path.{◌≡◌, refl, sym, ap, ◌∙◌}
use mathlib.Core.Bool.{Bool, true, false, not, ◌||◌}
use mathlib.Core.List.{List}
use borrow.Author.Tests.{lt-ltb, le-ltb}
use lib.Dec.{ltb}
use lib.ListN.{length, take, drop, get_or}
use Rattle.rules.specs.Bytes.{part}
use Rattle.rules.specs.Settings.{block_max, state_ok}
use Rattle.rules.specs.Attributes.{attributes, value_of, has_otc, segments, origin_type, as_path_type, otc_type}
use Rattle.rules.specs.declared.Offer.{Offer}
use Rattle.rules.specs.Choice.{Candidate, candidate, bad_candidate, bad_offer, path_length}
use Rattle.octets.proofs.Slices.{part-is}
use Rattle.attributes.specs.Layout.{layout, reading, value_at}
use Rattle.attributes.specs.declared.layout.Layout.{Layout}
use Rattle.std.specs.Prelude.{Result, Ok, Err}
use Rattle.rules.specs.declared.Refusal.{Refusal}
use Rattle.attributes.proofs.Found.{value_of_lem, has_of, fault-read, clean-read}
use Rattle.choice.specs.Keys.{Reads, keys_in}

-- The test of a size and a state, in the code's order.
module _ (size state : ℕ) where
  pub range_over : block_max < size → true ≡ (ltb block_max size || not (state_ok state))
  range_over h = rw (lt-ltb block_max size h) refl

  pub range_state : size ≤ block_max → {x : Bool} → x ≡ state_ok state → not x ≡ (ltb block_max size || not (state_ok state))
  range_state h e = rw (le-ltb block_max size h) (ap not e)

-- By its size and state, x is whether they are out of range; and then by the reader's answer r.
module _ (c : Candidate) {x : Bool} (e : x ≡ (ltb block_max (length c.block) || not (state_ok c.state))) where
  pub range_bad : x ≡ true → bad_candidate c ≡ true
  unfolding bad_candidate
  range_bad q = rw (sym e ∙ q) refl

  module _ (q : x ≡ false) {r : Result Layout Refusal} (p : r ≡ reading c.block) where
    pub fault_bad : {f : Refusal} → r ≡ Err f → bad_candidate c ≡ true
    unfolding bad_candidate
    fault_bad z = rw (sym e ∙ q, (fault-read c.block p z).0) refl

    pub clean-good : {l : Layout} → r ≡ Ok l → bad_candidate c ≡ false
    unfolding bad_candidate
    clean-good z = rw (sym e ∙ q, (clean-read c.block p z).0) refl

pub clean_reads : (b : List ℕ) {r : Result Layout Refusal} {l : Layout} → r ≡ reading b → r ≡ Ok l → Reads b l
clean_reads b p z = let k = clean-read b p z in record { good = k.0; is = k.1 }

-- What is found where a block reads cleanly.
module _ {b : List ℕ} {l : Layout} (w : Reads b l) where
  pub otc-found : ltb l.otc (length b) ≡ has_otc (attributes b)
  unfolding layout has_otc
  otc-found = rw w.is (sym (has_of otc_type b w.good))

  pub keys_found : {path origin : List ℕ} {n o identifier address : ℕ} → path ≡ value_at l.as_path b → n ≡ path_length (segments path)
      → origin ≡ value_at l.origin b → o ≡ get_or origin 0 0
      → record { path = n; origin = o; identifier = identifier; address = address } ≡ keys_in b identifier address
  unfolding keys_in layout
  keys_found {path} {origin} e u f v =
      let i : path ≡ value_of as_path_type (attributes b) = e ∙ rw w.is (value_of_lem as_path_type b w.good) in
      let j : origin ≡ value_of origin_type (attributes b) = f ∙ rw w.is (value_of_lem origin_type b w.good) in
      rw (u, i, v, j) refl

-- A candidate that is offered: its block outside the buffer, or the part of it that is lent.
module _ (buffer : List ℕ) (o : Offer) where
  abbrev pub lent : Candidate
  lent =
      record {
        block = take (o.start + o.size - o.start) (drop o.start buffer);
        state = o.state;
        identifier = o.identifier;
        address = o.address;
      }

  pub lent_is : lent ≡ candidate buffer o
  unfolding candidate part
  lent_is = rw (part-is buffer o.start o.size) refl

  pub offer-outside : length buffer < o.start + o.size → bad_offer buffer o ≡ true
  unfolding bad_offer
  offer-outside h = rw (lt-ltb (length buffer) (o.start + o.size) h) refl

  pub offer-inside : o.start + o.size ≤ length buffer → {x : Bool} → bad_candidate lent ≡ x → bad_offer buffer o ≡ x
  unfolding bad_offer
  offer-inside h e = rw (le-ltb (length buffer) (o.start + o.size) h, ← lent_is) e
