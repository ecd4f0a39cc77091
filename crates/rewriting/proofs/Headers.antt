-- The header of a communities attribute as it goes out, and the attribute as its header, the communities left and the tag.
use Prim.Native.Nat.{ℕ, ◌+◌, ◌-◌, ◌≤◌, ◌<◌, ◌/◌, ◌%◌}
use mathlib.Core.Path.{◌≡◌, refl, sym, ◌∙◌}
use mathlib.Core.Bool.{Bool, true, false, cond, true≢false}
use mathlib.Core.List.{List, [], ◌∷◌, ◌++◌}
use native.Mathlib.Omega.{arith}
use lib.Dec.{leb}
use lib.ListN.{length, take, drop, get_or, length-append}
use lib.Seq.{drop-drop}
use borrow.Author.Tests.{leb-true, le-leb, lt-leb, eqb-false}
use Rattle.rules.specs.Bytes.{is_empty, bytes2}
use Rattle.rules.specs.Attributes.{Attribute, attribute, encode_one, long, length_bytes}
use Rattle.rules.specs.Changes.{drop_from, with_value}
use Rattle.rules.proofs.Lists.{nil_of_length, is_empty_not}
use Rattle.rules.proofs.Values.{long-set}
use Rattle.octets.proofs.Slices.{tail_is}
use Rattle.communities.specs.Tags.{tag_bytes}
use Rattle.rewriting.specs.Plan.{value_flags, header, left_of, community_bytes}

-- A short form has room for the bit that makes it long.
pub long-room : (flags : ℕ) → flags < 256 → long flags ≡ false → flags + 16 < 256
unfolding long
long-room flags h e = omega (arith, eqb-false (flags / 16 % 2) 1 e)

pub length_bytes-le : (flags : ℕ) → length_bytes flags ≤ 2
unfolding length_bytes
length_bytes-le flags = go (long flags)
  where
    go : (x : Bool) → cond {A = ℕ} x 2 1 ≤ 2
    go true = omega arith
    go false = omega arith

-- The flags that an attribute gets with its value.
module _ (flags n : ℕ) where
  pub flags_long : long flags ≡ true → flags ≡ value_flags flags n
  unfolding value_flags
  flags_long e = rw e refl

  module _ (e : long flags ≡ false) where
    pub flags-short : n ≤ 255 → flags ≡ value_flags flags n
    unfolding value_flags
    flags-short h = rw (e, le-leb n 255 h) refl

    pub flags_widened : 255 < n → flags + 16 ≡ value_flags flags n
    unfolding value_flags
    flags_widened h = rw (e, lt-leb n 255 h) refl

-- The two forms of a header.
module _ (flags kind n : ℕ) {f : ℕ} (e : f ≡ value_flags flags n) where
  pub header-long : long f ≡ true → header flags kind n ≡ f ∷ kind ∷ n / 256 ∷ n % 256 ∷ []
  unfolding header bytes2
  header-long l = rw (← e, l) refl

  pub header-short : long f ≡ false → header flags kind n ≡ f ∷ kind ∷ n ∷ []
  unfolding header
  header-short l = rw (← e, l) refl

  -- A short form has a length of one byte.
  pub short-length : long f ≡ false → n ≤ 255
  unfolding value_flags
  short-length l = go (long flags) (leb n 255) refl refl (rw e at l)
    where
      go : (x y : Bool) → long flags ≡ x → leb n 255 ≡ y → long (cond x flags (cond y flags (flags + 0x10))) ≡ false → n ≤ 255
      go true y p q z = let w : true ≡ false = sym p ∙ z in absurd (true≢false w)
      go false true p q z = leb-true n 255 q
      go false false p q z = absurd (true≢false (sym (long-set flags p) ∙ z))

  pub header-length : length (header flags kind n) ≡ 2 + length_bytes f
  unfolding header length_bytes bytes2
  header-length = rw e (go (long (value_flags flags n)))
    where
      go : (x : Bool) → length (cond x (value_flags flags n ∷ kind ∷ n / 256 ∷ n % 256 ∷ []) (value_flags flags n ∷ kind ∷ n ∷ [])) ≡ 2 + cond x 2 1
      go true = refl
      go false = refl

-- An attribute with a new value is a header and the value.
with_value_lem : (a : Attribute) (v : List ℕ) → encode_one (with_value a v) ≡ header a.flags a.type (length v) ++ v
unfolding encode_one with_value header value_flags
with_value_lem a v = go (long a.flags) (leb (length v) 255) refl
  where
    go : (x y : Bool) → long a.flags ≡ x
        → encode_one (cond x (record { flags = a.flags; type = a.type; len = bytes2 (length v); value = v })
        (cond y (record { flags = a.flags; type = a.type; len = length v ∷ []; value = v })
        (record { flags = a.flags + 0x10; type = a.type; len = bytes2 (length v); value = v })))
        ≡ cond (long (cond x a.flags (cond y a.flags (a.flags + 0x10))))
        (cond x a.flags (cond y a.flags (a.flags + 0x10)) ∷ a.type ∷ bytes2 (length v))
        (cond x a.flags (cond y a.flags (a.flags + 0x10)) ∷ a.type ∷ length v ∷ []) ++ v
    go true y e = rw e refl
    go false true e = rw e refl
    go false false e = rw (long-set a.flags e) refl

module _ (dropped : List ℕ → Bool) where
  -- The value of an attribute is what `&a[h..]` lends, and what is left of it.
  pub left_is : (a : List ℕ) {h : ℕ} → h ≡ 2 + length_bytes (get_or a 0 0) → drop_from dropped (take (length a - h) (drop h a)) ≡ left_of dropped a
  unfolding left_of attribute
  left_is a {h} e = rw (tail_is a h, e, ← drop-drop (length_bytes (get_or a 0 0)) 2 a)

  module _ (state : ℕ) (a : List ℕ) where
    -- The attribute goes away whole.
    pub community-none : length (left_of dropped a) ≡ 0 → community_bytes dropped state a ≡ []
    unfolding community_bytes is_empty
    community-none e = rw (nil_of_length (left_of dropped a) e)

    -- It stays, with a value of n bytes.
    pub community-some : {n : ℕ} → 0 < length (left_of dropped a) → n ≡ length (left_of dropped a) + length (tag_bytes state)
        → community_bytes dropped state a ≡ header (get_or a 0 0) (get_or a 1 0) n ++ (left_of dropped a ++ tag_bytes state)
    unfolding community_bytes attribute
    community-some {n} p e =
        let q : n ≡ length (left_of dropped a ++ tag_bytes state) = e ∙ sym (length-append (left_of dropped a) (tag_bytes state)) in
        rw (is_empty_not (left_of dropped a) p, q) (with_value_lem (attribute a) (left_of dropped a ++ tag_bytes state))
