-- Laws of AS_PATH: its segments one by one, the ASNs of a segment, the length of a path and its origin.
use Prim.Native.Nat.{ℕ, zero, suc, ◌+◌, ◌*◌, ◌-◌, ◌≤◌, ◌<◌}
use mathlib.Core.Path.{◌≡◌, refl, sym, ap, ◌∙◌}
use mathlib.Core.List.{List, [], ◌∷◌, ◌++◌, map}
use mathlib.Core.Bool.{Bool, true, false, cond, ◌&&◌, and-false, or-true}
use mathlib.Core.Logic.{◌⊎◌, ⊎_elim}
use mathlib.Core.Option.{Option, none, some}
use native.Mathlib.Omega.{arith}
use lib.ListN.{length, take, drop, get_or, get_or-append, length-drop, take-append-drop}
use lib.Seq.{take_all, drop-drop, length-take-le}
use lib.Dec.{leb, eqb}
use borrow.Author.Tests.{le-leb, lt-leb, leb-true, leb-false, eq-eqb, ne_eqb}
use Rattle.rules.specs.Bytes.{big_endian, is_empty, every, exists, one_of, last_or}
use Rattle.rules.specs.Rows.{Row, with_item, chop, chop_up_to, whole, by}
use Rattle.rules.specs.Attributes.{segment_size, segments, asns, segment_ok, as_path_ok}
use Rattle.rules.specs.Choice.{path_length}
use Rattle.rules.specs.Origin.{final_origin, origin_in}
use Rattle.rules.proofs.Lists.{is_empty_not}
use Rattle.rules.proofs.Rows.{fit_none, chop_stop, chop-front}
use Rattle.as_path.specs.Splitting.{Split}

-- The ASNs that some bytes spell.
unfoldable pub asns_of : List ℕ → List ℕ
asns_of s = map big_endian (chop (by 4) s).items

-- An ASN and others, or too few bytes for one more.
pub asns-next : (asn after : List ℕ) → length asn ≡ 4 → asns_of (asn ++ after) ≡ big_endian asn ∷ asns_of after
unfolding asns_of by with_item
asns-next asn after h = ap (λ (r : Row). map big_endian r.items) (chop-front (by 4) asn after (sym h) (omega (arith, h)))

pub asns-end : (s : List ℕ) → length s < 4 → asns_of s ≡ []
unfolding asns_of by
asns-end s h = ap (λ (r : Row). map big_endian r.items) (chop_stop (by 4) s (fit_none (by 4) s h))

-- No ASN is 0: by the first, or by those after it.
module _ {rest : List ℕ} (asn after : List ℕ) (r : rest ≡ asn ++ after) (four : length asn ≡ 4) {x : ℕ} (e : x ≡ big_endian asn) where
  pub asns_bad : x < 1 → every (leb 1) (asns_of rest) ≡ false
  unfolding every
  asns_bad z = rw (r, asns-next asn after four, ← e, lt-leb 1 x z) refl

  pub asns-good : 1 ≤ x → every (leb 1) (asns_of rest) ≡ every (leb 1) (asns_of after)
  unfolding every
  asns-good z = rw (r, asns-next asn after four, ← e, le-leb 1 x z) refl

pub asns_through : (rest : List ℕ) → length rest < 4 → every (leb 1) (asns_of rest) ≡ true
unfolding every
asns_through rest h = rw (asns-end rest h) refl

asns-step : (s : List ℕ) → 4 ≤ length s → asns_of s ≡ big_endian (take 4 s) ∷ asns_of (drop 4 s)
asns-step s h = ap asns_of (sym (take-append-drop 4 s)) ∙ asns-next (take 4 s) (drop 4 s) (length-take-le 4 s h)

-- The last ASN is the last four bytes.
asns_last : (k : ℕ) (s : List ℕ) (d : ℕ) → length s ≡ 4 + 4 * k → last_or d (asns_of s) ≡ big_endian (drop (length s - 4) s)
unfolding last_or
asns_last zero s d e =
    let size : length s - 4 ≡ 0 = omega (arith, e) in
    rw (asns-step s (omega (arith, e)), asns-end (drop 4 s) (omega (arith, e, length-drop 4 s)), size) (ap big_endian (take_all 4 s (omega (arith, e))))
asns_last (suc k) s d e =
    let size : 4 + (length (drop 4 s) - 4) ≡ length s - 4 = omega (arith, e, length-drop 4 s) in
    rw (asns-step s (omega (arith, e)))
    (asns_last k (drop 4 s) _ (omega (arith, e, length-drop 4 s)) ∙ ap big_endian (drop-drop (length (drop 4 s) - 4) 4 s ∙ ap (λ (n : ℕ). drop n s) size))

-- A segment has a type and a count.
pub segment_cut : (s : List ℕ) → length s < 2 → length s < segment_size s
unfolding segment_size
segment_cut s h = omega (arith, h)

-- A segment by itself.
module _ (g : List ℕ) where
  pub segment_type : (get_or g 0 0 ≡ 1 → ⊥) → (get_or g 0 0 ≡ 2 → ⊥) → segment_ok g ≡ false
  unfolding segment_ok one_of exists
  segment_type h k = rw (ne_eqb (get_or g 0 0) 1 h, ne_eqb (get_or g 0 0) 2 k) refl

  pub segment_count : get_or g 1 0 < 1 → segment_ok g ≡ false
  unfolding segment_ok
  segment_count h = rw (lt-leb 1 (get_or g 1 0) h, and-false) refl

  pub segment_asns : (get_or g 0 0 ≡ 1) ⊎ (get_or g 0 0 ≡ 2) → 1 ≤ get_or g 1 0 → segment_ok g ≡ every (leb 1) (asns g)
  unfolding segment_ok one_of exists
  segment_asns t h =
      ⊎_elim
      (λ e. rw (le-leb 1 (get_or g 1 0) h, eq-eqb (get_or g 0 0) 1 e) refl)
      (λ e. rw (le-leb 1 (get_or g 1 0) h, eq-eqb (get_or g 0 0) 2 e, or-true) refl)
      t

  -- What it adds to the length of a path.
  pub path_length-set : get_or g 0 0 ≡ 1 → 1 ≡ path_length (g ∷ [])
  unfolding path_length
  path_length-set e = rw e refl

  pub path_length_sequence : (get_or g 0 0 ≡ 1 → ⊥) → get_or g 1 0 ≡ path_length (g ∷ [])
  unfolding path_length
  path_length_sequence h = rw (ne_eqb (get_or g 0 0) 1 h) (omega arith)

  -- The origin that it gives as the final one.
  pub final_none : (get_or g 0 0 ≡ 2 → ⊥) → none ≡ final_origin g
  unfolding final_origin
  final_none h = rw (ne_eqb (get_or g 0 0) 2 h) refl

  pub final_empty : get_or g 0 0 ≡ 2 → length g < 6 → some 0 ≡ final_origin g
  unfolding final_origin last_or asns asns_of
  final_empty e h = rw (e, asns-end (drop 2 g) (omega (arith, h, length-drop 2 g))) refl

  pub final_last : get_or g 0 0 ≡ 2 → length g ≡ segment_size g → 6 ≤ length g → some (big_endian (drop (length g - 4) g)) ≡ final_origin g
  unfolding final_origin segment_size asns asns_of
  final_last e z h =
      let l = length-drop 2 g in
      let size : 2 + (length (drop 2 g) - 4) ≡ length g - 4 = omega (arith, h, l) in
      rw e
      (ap some (sym (asns_last (get_or g 1 0 - 1) (drop 2 g) 0 (omega (arith, z, h, l)) ∙ ap big_endian (drop-drop (length (drop 2 g) - 4) 2 g ∙ ap (λ (n : ℕ). drop n g) size))))

-- A law of lists: the last of what a function makes.
last_map : {A B : Type 0} (f : A → B) (d : A) (l : List A) → f (last_or d l) ≡ last_or (f d) (map f l)
unfolding last_or
last_map f d [] = refl
last_map f d (x ∷ l) = last_map f x l

-- The origin of a path is that of its last segment.
pub origin_last : (own : ℕ) (l : List (List ℕ)) → origin_in own l ≡ last_or (some own) (map final_origin l)
unfolding origin_in last_or
origin_last own [] = refl
origin_last own (g ∷ gs) = last_map final_origin g gs

path_length_cons : (g : List ℕ) (l : List (List ℕ)) → path_length (g ∷ l) ≡ path_length (g ∷ []) + path_length l
unfolding path_length
path_length_cons g l = omega arith

-- No segment is left, where the path is too short for one: it is sound only where it is empty.
module _ (path : List ℕ) (h : length path < segment_size path) where
  torn : chop segment_size path ≡ record { items = []; left = path }
  torn = chop_stop segment_size path (fit_none segment_size path h)

  pub segments_none : segments path ≡ []
  unfolding segments
  segments_none = ap (λ (r : Row). r.items) torn

  pub path_torn : (length path ≡ 0 → ⊥) → as_path_ok path ≡ false
  unfolding as_path_ok segments whole every
  path_torn some_left =
      ap (λ (r : Row). whole r && every segment_ok r.items) torn ∙ rw (is_empty_not path (omega (arith, some_left))) refl

  pub path_length-none : path_length (segments path) ≡ 0
  unfolding path_length
  path_length-none = rw segments_none refl

  pub origin-none : (d : Option ℕ) → last_or d (map final_origin (segments path)) ≡ d
  unfolding last_or
  origin-none d = rw segments_none refl

pub path_empty : (path : List ℕ) → length path ≡ 0 → as_path_ok path ≡ true
unfolding as_path_ok segments whole every is_empty chop chop_up_to
path_empty [] h = refl
path_empty (x ∷ path) h = absurd (omega (arith, h))

-- A segment and the path after it.
module _ {path : List ℕ} (segment after : List ℕ) (s : Split path segment after) where
  split-size : segment_size (segment ++ after) ≡ length segment
  split-size = ap segment_size (sym s.is) ∙ sym s.size

  pub segment_least : 2 ≤ length segment
  unfolding segment_size
  segment_least = omega (arith, s.size)

  pub segment_whole : length segment ≡ segment_size segment
  unfolding segment_size
  segment_whole =
      s.size ∙ rw (s.is, get_or-append segment after 0 1 (omega (arith, segment_least))) refl

  split-chop : chop segment_size path ≡ with_item segment (chop segment_size after)
  split-chop = rw s.is (chop-front segment_size segment after split-size (omega (arith, segment_least)))

  pub path_length-next : path_length (segments path) ≡ path_length (segment ∷ []) + path_length (segments after)
  unfolding segments with_item
  path_length-next = ap (λ (r : Row). path_length r.items) split-chop ∙ path_length_cons segment (segments after)

  -- A segment adds no more to the length of a path than it has bytes.
  pub path_length-item : path_length (segment ∷ []) ≤ length segment
  unfolding path_length segment_size
  path_length-item = go (eqb (get_or segment 0 0) 1)
    where
      go : (b : Bool) → cond b 1 (get_or segment 1 0) + 0 ≤ length segment
      go true = omega (arith, segment_least)
      go false = omega (arith, segment_whole)

  pub origin-next : (d : Option ℕ) → last_or d (map final_origin (segments path)) ≡ last_or (final_origin segment) (map final_origin (segments after))
  unfolding last_or segments with_item
  origin-next d = ap (λ (r : Row). last_or d (map final_origin r.items)) split-chop

  module _ {b : Bool} (q : b ≡ segment_ok segment) where
    path-next : as_path_ok path ≡ (whole (chop segment_size after) && (b && every segment_ok (segments after)))
    unfolding as_path_ok segments whole with_item every
    path-next = rw q (ap (λ (r : Row). whole r && every segment_ok r.items) split-chop)

    pub path_bad : b ≡ false → as_path_ok path ≡ false
    path_bad t = rw (path-next, t, and-false) refl

    pub path-good : b ≡ true → as_path_ok path ≡ as_path_ok after
    unfolding as_path_ok
    path-good t = rw (path-next, t) refl

-- A path is no longer than its bytes.
path_length-up-to : (k : ℕ) (s : List ℕ) → length s ≤ k → path_length (segments s) ≤ length s
unfolding segment_size
path_length-up-to zero s h = omega (arith, h, path_length-none s (segment_cut s (omega (arith, h))))
path_length-up-to (suc k) s h = go (leb (segment_size s) (length s)) refl (path_length-up-to k)
  where
    go : (b : Bool) → leb (segment_size s) (length s) ≡ b
        → ((t : List ℕ) → length t ≤ k → path_length (segments t) ≤ length t) → path_length (segments s) ≤ length s
    go false e ih = omega (arith, path_length-none s (leb-false (segment_size s) (length s) e))
    go true e ih =
        let size = segment_size s in
        let fits : size ≤ length s = leb-true size (length s) e in
        let segment = take size s in
        let after = drop size s in
        let parts : Split s segment after = record { is = sym (take-append-drop size s); size = length-take-le size s fits } in
        let l = length-drop size s in
        let least : 2 ≤ size = omega arith in
        omega (
          arith,
          path_length-next segment after parts,
          path_length-item segment after parts,
          length-take-le size s fits,
          ih after (omega (arith, l, least, h)),
          l,
          fits,
        )

pub path_length-le : (s : List ℕ) → path_length (segments s) ≤ length s
path_length-le s = path_length-up-to (length s) s (omega arith)
