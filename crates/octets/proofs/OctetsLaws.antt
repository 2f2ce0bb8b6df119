-- Laws of byte strings: lengths and ranges, numbers in bytes, exclusive or, equality as a test.
use mathlib.Core.Path.{◌≡◌, refl, sym, ap, ap₂, ◌∙◌}
use mathlib.Core.List.{List, [], ◌∷◌, ◌++◌, map}
use mathlib.Core.Bool.{Bool, true, ◌&&◌}
use Prim.Native.Nat.{ℕ, zero, suc, ◌+◌, ◌-◌, ◌/◌, ◌%◌, ◌^◌, ◌≤◌, ◌<◌}
use Rattle.std.specs.Int.{bytes_high_first}
use native.Mathlib.Nat.{div-div-eq-div-mul, pow-succ', mod-lt, zero-lt-suc, suc_inj}
use native.Mathlib.Omega.{arith}
use lib.ListN.{length, take, drop, get_or, replicate, length-append, length-take, length-drop, length-replicate, length-map, replicate-append-replicate}
use lib.Seq.{length-take-le}
use lib.Dec.{eqb}
use lib.Pointwise.{pointwise}
use borrow.Author.Tests.{eqb-true, eq-eqb}
use Rattle.octets.specs.Octets.{Bytes, Str, zeros, padded, big_endian, be32_of, be32_at, ◌⊕◌, xors, same, be32}
use Rattle.octets.proofs.BoolLaws.{and_split}
use Rattle.octets.proofs.XorLaws.{⊕-byte, ⊕_undo, ⊕-assoc, ⊕_self, zero-⊕, ⊕-div, ⊕-mod}

-- ---- lengths and ranges

pub bytes-append : (x y : List ℕ) → Bytes x → Bytes y → Bytes (x ++ y)
bytes-append [] y h k = k
bytes-append (a ∷ x) y h k = (h.0, bytes-append x y h.1 k)

pub bytes_take : (n : ℕ) (x : List ℕ) → Bytes x → Bytes (take n x)
bytes_take zero x h = tt
bytes_take (suc n) [] h = tt
bytes_take (suc n) (a ∷ x) h = (h.0, bytes_take n x h.1)

pub bytes_drop : (n : ℕ) (x : List ℕ) → Bytes x → Bytes (drop n x)
bytes_drop zero x h = h
bytes_drop (suc n) [] h = tt
bytes_drop (suc n) (a ∷ x) h = bytes_drop n x h.1

pub bytes-at : (x : List ℕ) → Bytes x → (i : ℕ) → get_or x i 0 < 256
bytes-at [] h i = omega arith
bytes-at (a ∷ x) h zero = h.0
bytes-at (a ∷ x) h (suc i) = bytes-at x h.1 i

pub bytes-map : (f : ℕ → ℕ) → ((a : ℕ) → a < 256 → f a < 256) → (x : List ℕ) → Bytes x → Bytes (map f x)
bytes-map f hf [] h = tt
bytes-map f hf (a ∷ x) h = (hf a h.0, bytes-map f hf x h.1)

pub str_cast : {n m : ℕ} {x : List ℕ} → n ≡ m → Str n x → Str m x
str_cast e h = record { len = h.len ∙ e; byte = h.byte }

pub str_append : {n m : ℕ} {x y : List ℕ} → Str n x → Str m y → Str (n + m) (x ++ y)
str_append {n} {m} {x} {y} h k = record { len = length-append x y ∙ ap₂ (λ a b. a + b) h.len k.len; byte = bytes-append x y h.byte k.byte }

-- the first n bytes
pub str_crop : (n : ℕ) {m : ℕ} {x : List ℕ} → Str m x → n ≤ m → Str n (take n x)
str_crop n {m} {x} h l = record { len = length-take-le n x (omega (arith, h.len)); byte = bytes_take n x h.byte }

-- the first a of a + b bytes, and the rest
pub str_take : (a b : ℕ) {x : List ℕ} → Str (a + b) x → Str a (take a x)
str_take a b {x} h = record { len = length-take a x ∙ omega (arith, h.len); byte = bytes_take a x h.byte }

pub str_drop : (a b : ℕ) {x : List ℕ} → Str (a + b) x → Str b (drop a x)
str_drop a b {x} h = record { len = length-drop a x ∙ omega (arith, h.len); byte = bytes_drop a x h.byte }

pub length-zeros : (n : ℕ) → length (zeros n) ≡ n
unfolding zeros
length-zeros n = length-replicate n 0

pub str_zeros : (n : ℕ) → Str n (zeros n)
unfolding zeros
str_zeros n = record { len = length-replicate n 0; byte = go n }
  where
    go : (n : ℕ) → Bytes (replicate n 0)
    go zero = tt
    go (suc n) = (omega arith, go n)

pub zeros-append : (a b : ℕ) → zeros a ++ zeros b ≡ zeros (a + b)
unfolding zeros
zeros-append a b = replicate-append-replicate a b 0

pub drop-zeros : (k n : ℕ) → drop k (zeros n) ≡ zeros (n - k)
unfolding zeros
drop-zeros zero n = ap zeros (let e : n ≡ n - 0 = omega arith in e)
drop-zeros (suc k) zero = ap zeros (let e : 0 ≡ 0 - suc k = omega arith in e)
drop-zeros (suc k) (suc n) = drop-zeros k n ∙ ap zeros (let e : n - k ≡ suc n - suc k = omega arith in e)

pub str_map : (f : ℕ → ℕ) → ((a : ℕ) → a < 256 → f a < 256) → (n : ℕ) (x : List ℕ) → Str n x → Str n (map f x)
str_map f hf n x h = record { len = length-map x f ∙ h.len; byte = bytes-map f hf x h.byte }

-- ---- numbers in bytes

pub str_big_endian : (n x : ℕ) → Str n (big_endian n x)
unfolding big_endian
str_big_endian zero x = record { len = refl; byte = tt }
str_big_endian (suc n) x =
    str_cast (omega arith) (str_append {n = n} {m = 1} (str_big_endian n (x / 256)) (record { len = refl; byte = (mod-lt x (zero-lt-suc 255), tt) }))

pub length-big_endian : (n x : ℕ) → length (big_endian n x) ≡ n
length-big_endian n x = (str_big_endian n x).len

-- std's bytes of a number
high_snoc : (k n : ℕ) → bytes_high_first (suc k) n ≡ bytes_high_first k (n / 256) ++ (n % 256 ∷ [])
high_snoc zero n = refl
high_snoc (suc zero) n = refl
high_snoc (suc (suc k)) n =
    ap₂ (λ (x : ℕ) (l : List ℕ). x % 256 ∷ l)
    (ap (λ (m : ℕ). n / m) (pow-succ' 256 (suc k)) ∙ sym (div-div-eq-div-mul n 256 (256 ^ suc k)))
    (high_snoc (suc k) n)

pub high_first : (k n : ℕ) → bytes_high_first k n ≡ big_endian k n
unfolding big_endian
high_first zero n = refl
high_first (suc k) n = high_snoc k n ∙ ap (λ (l : List ℕ). l ++ (n % 256 ∷ [])) (high_first k (n / 256))

-- four bytes of a number read back
pub be32-bytes : (x : ℕ) → x < 2 ^ 32 → be32_of (x / 256 / 256 / 256 % 256) (x / 256 / 256 % 256) (x / 256 % 256) (x % 256) ≡ x
be32-bytes x h = omega arith

pub be32_at-be32 : (x : ℕ) → x < 2 ^ 32 → be32_at (be32 x) 0 ≡ x
unfolding big_endian be32_at
be32_at-be32 x h = be32-bytes x h

pub length-padded : (w : ℕ) (x : List ℕ) → length x ≤ w → length (padded w x) ≡ w
length-padded w x h = omega (arith, length-append x (zeros (w - length x)), length-zeros (w - length x))

-- ---- exclusive or

pub length-xors : (x y : List ℕ) → length (xors x y) ≡ length x
unfolding xors
length-xors [] y = refl
length-xors (a ∷ x) [] = refl
length-xors (a ∷ x) (b ∷ y) = ap suc (length-xors x y)

pub bytes-xors : (x y : List ℕ) → Bytes x → Bytes y → Bytes (xors x y)
unfolding xors
bytes-xors [] y h k = tt
bytes-xors (a ∷ x) [] h k = h
bytes-xors (a ∷ x) (b ∷ y) h k = (⊕-byte a b h.0 k.0, bytes-xors x y h.1 k.1)

pub str_xors : {n : ℕ} {x : List ℕ} (y : List ℕ) → Str n x → Bytes y → Str n (xors x y)
str_xors {n} {x} y h k = record { len = length-xors x y ∙ h.len; byte = bytes-xors x y h.byte k }

-- the second string taken away again
pub xors_undo : (x y : List ℕ) → xors (xors x y) y ≡ x
unfolding xors
xors_undo [] y = refl
xors_undo (a ∷ x) [] = refl
xors_undo (a ∷ x) (b ∷ y) = ap₂ ◌∷◌ (⊕_undo a b) (xors_undo x y)

-- the first string taken away again
pub xors_cancel : (x y : List ℕ) → length x ≡ length y → xors x (xors x y) ≡ y
unfolding xors
xors_cancel [] [] e = refl
xors_cancel [] (b ∷ y) e = absurd (omega arith)
xors_cancel (a ∷ x) [] e = absurd (omega arith)
xors_cancel (a ∷ x) (b ∷ y) e =
    ap₂ ◌∷◌ (sym (⊕-assoc a a b) ∙ ap (λ (z : ℕ). z ⊕ b) (⊕_self a) ∙ zero-⊕ b) (xors_cancel x y (suc_inj e))

pub xors-append : (a b c d : List ℕ) → length a ≡ length c → xors (a ++ b) (c ++ d) ≡ xors a c ++ xors b d
unfolding xors
xors-append [] b [] d h = refl
xors-append [] b (y ∷ c) d h = absurd (omega arith)
xors-append (x ∷ a) b [] d h = absurd (omega arith)
xors-append (x ∷ a) b (y ∷ c) d h = ap (λ (r : List ℕ). (x ⊕ y) ∷ r) (xors-append a b c d (suc_inj h))

-- the bytes of a number's exclusive or are those of the two, byte by byte
pub big_endian-⊕ : (n x y : ℕ) → big_endian n (x ⊕ y) ≡ xors (big_endian n x) (big_endian n y)
unfolding big_endian xors
big_endian-⊕ zero x y = refl
big_endian-⊕ (suc n) x y =
    ap₂ (λ (q : ℕ) (r : ℕ). big_endian n q ++ (r ∷ [])) (⊕-div x y 8) (⊕-mod x y 8)
    ∙ ap (λ (r : List ℕ). r ++ (((x % 256) ⊕ (y % 256)) ∷ [])) (big_endian-⊕ n (x / 256) (y / 256))
    ∙ sym (xors-append (big_endian n (x / 256)) (x % 256 ∷ []) (big_endian n (y / 256)) (y % 256 ∷ [])
    (length-big_endian n (x / 256) ∙ sym (length-big_endian n (y / 256))))

-- ---- equality as a test

-- std's test of two lists, pair by pair
pub pointwise_same : (x y : List ℕ) → pointwise eqb x y ≡ same x y
unfolding same
pointwise_same [] [] = refl
pointwise_same [] (b ∷ y) = refl
pointwise_same (a ∷ x) [] = refl
pointwise_same (a ∷ x) (b ∷ y) = ap (λ (t : Bool). eqb a b && t) (pointwise_same x y)

pub same_refl : (x : List ℕ) → same x x ≡ true
unfolding same
same_refl [] = refl
same_refl (a ∷ x) = rw (eq-eqb a a refl) (same_refl x)

pub same-eq : (x y : List ℕ) → same x y ≡ true → x ≡ y
unfolding same
same-eq [] [] h = refl
same-eq [] (b ∷ y) h = cc
same-eq (a ∷ x) [] h = cc
same-eq (a ∷ x) (b ∷ y) h =
    let q = and_split (eqb a b) (same x y) h in
    ap₂ ◌∷◌ (eqb-true a b q.0) (same-eq x y q.1)
