-- Bytes held against what is left of a value and what follows it, one community at a time.
use Prim.Native.Nat.{ℕ, ◌+◌, ◌-◌, ◌≤◌, ◌<◌}
use mathlib.Core.Path.{◌≡◌, refl, sym, ap, ◌∙◌}
use mathlib.Core.Bool.{Bool, true, false, ◌&&◌}
use mathlib.Core.List.{List, [], ◌∷◌, ◌++◌, append_assoc}
use native.Mathlib.Omega.{arith}
use lib.Dec.{eqb}
use lib.ListN.{length, get_or, take, drop, length-drop, length-append}
use lib.Seq.{drop-drop}
use Rattle.rules.specs.Bytes.{same_bytes}
use Rattle.rules.specs.Changes.{drop_from}
use Rattle.rules.proofs.Lists.{same-append}
use Rattle.octets.proofs.Slices.{part-is, tail_is}
use Rattle.octets.proofs.Same.{same_lengths}
use Rattle.communities.proofs.Walked.{Walked}
use Rattle.communities.proofs.Dropped.{kept-none, kept_whole, left_step, left_end}

-- Two rows by their first two bytes and the others.
pub same-two : (c d : List ℕ) → 2 ≤ length c → 2 ≤ length d
    → same_bytes c d ≡ eqb (get_or c 0 0) (get_or d 0 0) && (eqb (get_or c 1 0) (get_or d 1 0) && same_bytes (drop 2 c) (drop 2 d))
unfolding same_bytes
same-two [] d h k = absurd (omega arith)
same-two (x ∷ []) d h k = absurd (omega arith)
same-two (x ∷ y ∷ c) [] h k = absurd (omega arith)
same-two (x ∷ y ∷ c) (z ∷ []) h k = absurd (omega arith)
same-two (x ∷ y ∷ c) (z ∷ w ∷ d) h k = refl

-- The bytes t from w on and what is kept of what is left of v, with the end, are the same exactly where all of both are.
pub record Matched (dropped : List ℕ → Bool) (v end t left : List ℕ) (w : ℕ) : Type 0 where
  pub room : w ≤ length t
  pub is : same_bytes (drop_from dropped left ++ end) (drop w t) ≡ same_bytes (drop_from dropped v ++ end) t

module _ {dropped : List ℕ → Bool} {v end t : List ℕ} where
  pub matched_start : {left : List ℕ} → left ≡ v → Matched dropped v end t left 0
  matched_start e = record { room = omega arith; is = rw e refl }

  module _ {left : List ℕ} {w : ℕ} (m : Matched dropped v end t left w) where
    -- No community is left to walk.
    pub matched_end : length left < 8 → {r : Bool} → r ≡ same_bytes end (take (length t - w) (drop w t)) → r ≡ same_bytes (drop_from dropped v ++ end) t
    matched_end h e = e ∙ ap (same_bytes end) (tail_is t w) ∙ (rw (left_end dropped left h) at m.is)

    module _ {community others : List ℕ} (walked : Walked left community others) where
      pub matched_dropped : dropped community ≡ true → Matched dropped v end t others w
      matched_dropped e = record { room = m.room; is = rw (left_step dropped walked, kept-none dropped community e) at m.is }

      module _ (e : dropped community ≡ false) where
        rest : List ℕ
        rest = drop_from dropped others ++ end

        next : same_bytes (community ++ rest) (drop w t) ≡ same_bytes (drop_from dropped v ++ end) t
        next =
            unfold rest in
            rw (left_step dropped walked, kept_whole dropped community e, append_assoc community (drop_from dropped others) end) at m.is

        pub matched_short : length t - w < 8 → false ≡ same_bytes (drop_from dropped v ++ end) t
        matched_short k =
            same_lengths (community ++ rest) (drop w t) (λ z. omega (arith, z, walked.eight, length-append community rest, length-drop w t)) ∙ next

        -- The community against the eight bytes that stand in its place.
        module _ (k : 8 ≤ length t - w) where
          both : {x : Bool} → x ≡ same_bytes community (take (w + 8 - w) (drop w t)) → x && same_bytes rest (drop (w + 8) t) ≡ same_bytes (drop_from dropped v ++ end) t
          both q =
              let l : length community ≤ length (drop w t) = omega (arith, walked.eight, length-drop w t) in
              rw (q, part-is t w 8) (sym (same-append community rest (drop w t) l ∙ rw (walked.eight, drop-drop 8 w t) refl) ∙ next)

          pub matched_differs : {x : Bool} → x ≡ same_bytes community (take (w + 8 - w) (drop w t)) → x ≡ false → false ≡ same_bytes (drop_from dropped v ++ end) t
          matched_differs q z = rw z at (both q)

          pub matched_kept : {x : Bool} → x ≡ same_bytes community (take (w + 8 - w) (drop w t)) → x ≡ true → Matched dropped v end t others (w + 8)
          unfolding rest
          matched_kept q z = record { room = omega (arith, m.room); is = rw z at (both q) }
