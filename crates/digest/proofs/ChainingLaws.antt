-- Laws of blocks, padding and digests over any compression function: a message taken in parts, resuming from chaining words, and that the
-- hash function is a lawful digest.
use mathlib.Core.Path.{◌≡◌, refl, sym, ap, ap₂, ◌∙◌}
use mathlib.Core.List.{List, [], ◌∷◌, ◌++◌, append_assoc, append-nil}
use Prim.Native.Nat.{ℕ, zero, suc, ◌+◌, ◌-◌, ◌*◌, ◌/◌, ◌%◌, ◌≤◌, ◌<◌}
use native.Mathlib.Nat.{zero-add, add-zero, add-suc, add_comm, suc_inj, add-mul-mod_self_left}
use native.Mathlib.Numerals.{add-one}
use native.Mathlib.Omega.{arith}
use lib.ListN.{length, get_or, take, drop, set, length-append, length-drop, take-append-drop, get_or-append}
use lib.Seq.{take-suc, take-suc-set, take_at, drop_at, set_split, take-append-le, drop-append-le, take-append-add, drop-drop, take_all, length-take-le}
use Rattle.octets.specs.Octets.{Str, zeros, big_endian, be32_at, be32, xors}
use Rattle.octets.specs.Splice.{splice}
use Rattle.octets.proofs.OctetsLaws.{str_cast, str_append, str_big_endian, big_endian-⊕, length-big_endian, length-zeros, zeros-append, xors-append}
use Rattle.octets.proofs.SpliceLaws.{length-splice, take-splice, splice-next, splice-zeros}
use Rattle.digest.specs.Digest.{LawfulDigest}
use Rattle.digest.specs.Chaining.{Words, Compression, LawfulCompression, digest, padding, words, schedule, compress_block, blocks, hash, finish, chained}
use Rattle.digest.specs.Turns.{turns}

-- ---- a list by its elements

-- the n from index j on
abbrev pub elements : {A : Type 0} → A → List A → ℕ → ℕ → List A
elements d s j zero = []
elements d s j (suc n) = get_or s j d ∷ elements d s (suc j) n

module _ {A : Type 0} (d : A) where
  elements-tail : (x : A) (s : List A) (j n : ℕ) → elements d (x ∷ s) (suc j) n ≡ elements d s j n
  elements-tail x s j zero = refl
  elements-tail x s j (suc n) = ap (λ (y : List A). get_or s j d ∷ y) (elements-tail x s (suc j) n)

  pub take-elements : (n : ℕ) (s : List A) → n ≤ length s → take n s ≡ elements d s 0 n
  take-elements zero s h = refl
  take-elements (suc n) [] h = absurd (omega arith)
  take-elements (suc n) (x ∷ s) h = ap (λ (y : List A). x ∷ y) (take-elements n s (omega arith) ∙ sym (elements-tail x s 0 n))

  pub all_elements : (n : ℕ) (s : List A) → length s ≡ n → s ≡ elements d s 0 n
  all_elements n s h = sym (take_all n s (omega arith)) ∙ take-elements n s (omega arith)

-- ---- words and their bytes

-- loading a block's words
pub words_more : (m w : List ℕ) (t x : ℕ) → t < length w → take t w ≡ words m t → x ≡ be32_at m (4 * t) → take (t + 1) (set w t x) ≡ words m (t + 1)
unfolding words
words_more m w t x h e p = rw (add-one, take-suc-set w t x h, e, p)

pub digest-append : (x y : List ℕ) → digest (x ++ y) ≡ digest x ++ digest y
unfolding digest
digest-append [] y = refl
digest-append (a ∷ x) y = ap (λ (z : List ℕ). be32 a ++ z) (digest-append x y) ∙ sym (append_assoc (be32 a) (digest x) (digest y))

-- storing the words' bytes
pub digest_more : (s d d' b : List ℕ) (i : ℕ) → i < length s → 4 * i + 4 ≤ length d → take (4 * i) d ≡ digest (take i s)
    → b ≡ be32 (get_or s i 0) → d' ≡ splice d (4 * i) b → take (4 * (i + 1)) d' ≡ digest (take (i + 1) s)
unfolding digest
digest_more s d d' b i h l e eb ed =
    let lb : length b ≡ 4 = ap length eb ∙ length-big_endian 4 (get_or s i 0) in
    let n : 4 * (i + 1) ≡ 4 * i + length b = omega arith in
    ap₂ take n ed ∙ take-splice d (4 * i) b (omega arith) ∙ ap₂ ◌++◌ e (eb ∙ sym (append-nil (be32 (get_or s i 0))))
    ∙ sym (ap (λ (k : ℕ). digest (take k s)) (add-one i) ∙ ap digest (take-suc s i 0 h) ∙ digest-append (take i s) (get_or s i 0 ∷ []))

pub str_digest : (s : List ℕ) → Str (length s * 4) (digest s)
unfolding digest
str_digest [] = record { len = refl; byte = tt }
str_digest (x ∷ s) = str_cast (omega arith) (str_append (str_big_endian 4 x) (str_digest s))

-- the bytes of the first words
pub take-digest : (n : ℕ) (s : List ℕ) → n ≤ length s → take (4 * n) (digest s) ≡ digest (take n s)
take-digest n s h =
    let l : length (digest (take n s)) ≡ 4 * n = omega (arith, (str_digest (take n s)).len, length-take-le n s h) in
    ap (λ (x : List ℕ). take (4 * n) (digest x)) (sym (take-append-drop n s)) ∙ ap (take (4 * n)) (digest-append (take n s) (drop n s))
    ∙ take_at (digest (take n s)) (digest (drop n s)) (4 * n) l

-- the bytes of an exclusive or of words
pub digest-xors : (a b : List ℕ) → length a ≡ length b → digest (xors a b) ≡ xors (digest a) (digest b)
unfolding digest xors
digest-xors [] [] h = refl
digest-xors [] (y ∷ b) h = absurd (omega arith)
digest-xors (x ∷ a) [] h = absurd (omega arith)
digest-xors (x ∷ a) (y ∷ b) h =
    ap₂ ◌++◌ (big_endian-⊕ 4 x y) (digest-xors a b (suc_inj h))
    ∙ sym (xors-append (be32 x) (digest a) (be32 y) (digest b) (length-big_endian 4 x ∙ sym (length-big_endian 4 y)))

-- ---- the message schedule

module _ (next : List ℕ → ℕ → ℕ) where
  pub length-schedule : (m : List ℕ) (n : ℕ) → length m ≡ 16 → length (schedule next m n) ≡ 16 + n
  unfolding schedule
  length-schedule m zero h = h
  length-schedule m (suc n) h = length-append (schedule next m n) (next (schedule next m n) (16 + n) ∷ []) ∙ omega (arith, length-schedule m n h)

  -- a word once made stays
  schedule_longer : (m : List ℕ) (n d t : ℕ) → length m ≡ 16 → t < 16 + n → get_or (schedule next m (n + d)) t 0 ≡ get_or (schedule next m n) t 0
  unfolding schedule
  schedule_longer m n zero t h l = ap (λ (k : ℕ). get_or (schedule next m k) t 0) (add-zero n)
  schedule_longer m n (suc d) t h l =
      ap (λ (k : ℕ). get_or (schedule next m k) t 0) (add-suc n d)
      ∙ get_or-append (schedule next m (n + d)) (next (schedule next m (n + d)) (16 + (n + d)) ∷ []) 0 t (omega (arith, length-schedule m (n + d) h))
      ∙ schedule_longer m n d t h l

  -- so that any two lengths agree on it
  pub schedule-at : (m : List ℕ) (n i t : ℕ) → length m ≡ 16 → t < 16 + n → t < 16 + i → get_or (schedule next m n) t 0 ≡ get_or (schedule next m i) t 0
  schedule-at m n i t h ln li =
      sym (schedule_longer m n i t h ln) ∙ ap (λ (k : ℕ). get_or (schedule next m k) t 0) (add_comm n i) ∙ schedule_longer m i n t h li

pub turns-add : (turn : ℕ → List ℕ × List ℕ → List ℕ × List ℕ) (a : List ℕ × List ℕ) (t n i : ℕ)
    → turns turn (turns turn a t n) (t + n) i ≡ turns turn a t (n + i)
unfolding turns
turns-add turn a t n zero = ap (turns turn a t) (sym (add-zero n))
turns-add turn a t n (suc i) =
    let e : (t + n) + i ≡ t + (n + i) = omega arith in
    ap₂ turn e (turns-add turn a t n i) ∙ ap (turns turn a t) (sym (add-suc n i))

-- ---- what is left over whole blocks, as the code takes it

abbrev rest : List ℕ → List ℕ
rest m = take (length m - 64 * (length m / 64)) (drop (64 * (length m / 64)) m)

rest-is : (m : List ℕ) → rest m ≡ drop (64 * (length m / 64)) m
rest-is m = take_all (length m - 64 * (length m / 64)) (drop (64 * (length m / 64)) m) (simp length-drop (omega arith))

length_rest : (m : List ℕ) → length (rest m) ≡ length m - 64 * (length m / 64)
length_rest m = ap length (rest-is m) ∙ length-drop (64 * (length m / 64)) m

-- ---- a buffer of zeros

take-zeros : (k n : ℕ) → k ≤ n → take k (zeros n) ≡ zeros k
take-zeros k n h =
    ap (λ (i : ℕ). take k (zeros i)) (let e : n ≡ k + (n - k) = omega arith in e) ∙ ap (take k) (sym (zeros-append k (n - k)))
    ∙ take_at (zeros k) (zeros (n - k)) k (length-zeros k)

-- zeros, with t at their start and b from index k
splice-ends : (n k e : ℕ) (t b : List ℕ) → e ≡ k + length b → length t ≤ k → e ≤ n
    → take e (splice (splice (zeros n) 0 t) k b) ≡ t ++ (zeros (k - length t) ++ b)
splice-ends n k e t b h l g =
    let z : ℕ = k - length t in
    let i : k ≡ length t + z = omega arith in
    let lE : length (splice (zeros n) 0 t) ≡ n = length-splice (zeros n) 0 t (omega (arith, length-zeros n)) ∙ length-zeros n in
    ap (λ (i : ℕ). take i (splice (splice (zeros n) 0 t) k b)) h ∙ take-splice (splice (zeros n) 0 t) k b (omega arith)
    ∙ ap (λ (x : List ℕ). x ++ b)
    (ap₂ take i (splice-zeros n t (omega arith)) ∙ take-append-add t (zeros (n - length t)) z
    ∙ ap (λ (x : List ℕ). t ++ x) (take-zeros z (n - length t) (omega arith)))
    ∙ append_assoc t (zeros z) b

-- a store
splice-one : (l : List ℕ) (i x : ℕ) → i < length l → set l i x ≡ splice l i (x ∷ [])
unfolding splice
splice-one l i x h = rw (add-one i) (set_split l i x h)

-- the zeros of the padding: k bytes of the message stand in the buffer, and j whole blocks were before them
zeros-between : (k j : ℕ) → (k + 72) / 64 * 64 - 8 - (k + 1) ≡ (119 - (k + 64 * j) % 64) % 64
zeros-between k j = rw (add-mul-mod_self_left k 64 j) (omega arith)

-- ---- any compression function

module _ (C : Compression) where
  -- a turn of a loop over whole blocks
  pub blocks_more : (s v u m x r : List ℕ) (i j : ℕ) → j ≡ i + 1 → drop (64 * i) m ≡ x ++ r → length x ≡ 64 → v ≡ blocks C s m i → u ≡ compress_block C v x
      → (r ≡ drop (64 * j) m) × (u ≡ blocks C s m j)
  unfolding blocks
  blocks_more s v u m x r i j n e l ev eu =
      let k : 64 * j ≡ 64 * i + 64 = omega arith in
      let next : suc i ≡ j = omega arith in (
        sym (drop_at x r 64 l) ∙ ap (drop 64) (sym e) ∙ drop-drop 64 (64 * i) m ∙ ap (λ (p : ℕ). drop p m) (sym k),
        eu ∙ ap₂ (compress_block C) ev (sym (take_at x r 64 l) ∙ ap (take 64) (sym e)) ∙ ap (blocks C s m) next,
      )

  -- those that lie in the first part of a list are those of the first part
  blocks-front : (s m p : List ℕ) (k : ℕ) → 64 * k ≤ length m → blocks C s (m ++ p) k ≡ blocks C s m k
  unfolding blocks
  blocks-front s m p zero h = refl
  blocks-front s m p (suc k) h =
      let h₁ : 64 * k ≤ length m = omega arith in
      let h₂ : 64 ≤ length (drop (64 * k) m) = simp length-drop (omega arith) in
      rw (blocks-front s m p k h₁, drop-append-le (64 * k) m p h₁, take-append-le 64 (drop (64 * k) m) p h₂)

  -- one after the other
  blocks-add : (s p : List ℕ) (j k : ℕ) → blocks C s p (j + k) ≡ blocks C (blocks C s p j) (drop (64 * j) p) k
  unfolding blocks
  blocks-add s p j zero = rw (add-zero j)
  blocks-add s p j (suc k) =
      let e : 64 * (j + k) ≡ 64 * j + 64 * k = omega arith in
      rw (add-suc j k, blocks-add s p j k, drop-drop (64 * k) (64 * j) p, e)

  -- all that are whole
  abbrev whole : List ℕ → List ℕ → List ℕ
  whole s p = blocks C s p (length p / 64)

  -- those of m, t and p: those of m, then those of what m leaves over, t and p
  whole-rest : (s m t p : List ℕ) → whole s ((m ++ t) ++ p) ≡ whole (whole s m) ((rest m ++ t) ++ p)
  whole-rest s m t p =
      let j : ℕ = length m / 64 in
      let r : List ℕ = t ++ p in
      let d : List ℕ = drop (64 * j) m ++ r in
      let h : 64 * j ≤ length m = omega arith in
      let l : length d ≡ length m - 64 * j + length r = simp (length-append, length-drop) in
      let n : length (m ++ r) / 64 ≡ j + length d / 64 = omega (arith, length-append m r) in
      ap (whole s) (append_assoc m t p) ∙ ap (blocks C s (m ++ r)) n ∙ blocks-add s (m ++ r) j (length d / 64)
      ∙ ap₂ (λ (x y : List ℕ). blocks C x y (length d / 64)) (blocks-front s m r j h) (drop-append-le (64 * j) m r h)
      ∙ ap (λ (x : List ℕ). whole (whole s m) (x ++ r)) (sym (rest-is m)) ∙ ap (whole (whole s m)) (sym (append_assoc (rest m) t p))

  -- the buffer: what m leaves over, t, a byte 128, and the length in bits at the end of a block
  pub finish-padded : (s m t : List ℕ) (n : ℕ) {v b B D E x : List ℕ} {r k e : ℕ} → n % 64 ≡ 0 → length t ≤ 4 → r ≡ length m - 64 * (length m / 64) → k ≡ r + length t
      → e ≡ (k + 72) / 64 * 64 → v ≡ blocks C s m (length m / 64) → b ≡ big_endian 8 (8 * (n + length m + length t)) → B ≡ splice (zeros 128) 0 (rest m)
      → D ≡ splice B r t → length D ≡ 128 → E ≡ splice (set D k 128) (e - 8) b → x ≡ blocks C v (take e E) (length (take e E) / 64) → x ≡ finish C s n (m ++ t)
  unfolding finish padding
  finish-padded s m t n {v} {b} {B} {D} {E} {x} {r} {k} {e} hn ht er ek ee ev eb eB eD lD eE ex =
      let R : List ℕ = rest m ++ t in
      let X : List ℕ = R ++ (128 ∷ []) in
      let N : ℕ = n + length (m ++ t) in
      let lR : length R ≡ k = omega (arith, length-append (rest m) t, length_rest m) in
      let lX : length X ≡ k + 1 = length-append R (128 ∷ []) ∙ ap (λ (i : ℕ). i + 1) lR in
      let lb : length b ≡ 8 = ap length eb ∙ length-big_endian 8 (8 * (n + length m + length t)) in
      let eN : 8 * (n + length m + length t) ≡ 8 * N = omega (arith, length-append m t) in
      let j : N ≡ k + 64 * (n / 64 + length m / 64) = omega (arith, length-append m t) in
      let z : e - 8 - length X ≡ (119 - N % 64) % 64 = rw (lX, ee, j) (zeros-between k (n / 64 + length m / 64)) in
      let eS : set D k 128 ≡ splice (zeros 128) 0 X =
      splice-one D k 128 (omega arith)
      ∙ ap (λ (y : List ℕ). splice y k (128 ∷ []))
      (eD ∙ ap (λ (y : List ℕ). splice y r t) eB ∙ splice-next (zeros 128) 0 (rest m) r t (omega (arith, length_rest m)) (omega arith))
      ∙ splice-next (zeros 128) 0 R k (128 ∷ []) (omega arith) (omega arith) in
      let eT : take e E ≡ R ++ padding N =
      ap (take e) (eE ∙ ap (λ (y : List ℕ). splice y (e - 8) b) eS) ∙ splice-ends 128 (e - 8) e X b (omega arith) (omega arith) (omega arith)
      ∙ append_assoc R (128 ∷ []) (zeros (e - 8 - length X) ++ b)
      ∙ ap₂ (λ (i : ℕ) (y : List ℕ). R ++ (128 ∷ (zeros i ++ y))) z (eb ∙ ap (big_endian 8) eN) in
      ex ∙ ap₂ whole ev eT ∙ sym (whole-rest s m t (padding N))

  pub hash_is : (m : List ℕ) → hash C m ≡ digest (finish C C.initial 0 m)
  unfolding hash finish
  hash_is m = rw (zero-add (length m))

  -- a message that begins with one whole block, k
  pub hash-after : (k m : List ℕ) → length k ≡ 64 → hash C (k ++ m) ≡ digest (finish C (compress_block C C.initial k) 64 m)
  unfolding hash finish blocks
  hash-after k m h =
      let one : length k / 64 ≡ 1 = omega arith in
      let none : length k - 64 * (length k / 64) ≡ 0 = omega arith in
      let b : whole C.initial k ≡ compress_block C C.initial k = ap (blocks C C.initial k) one ∙ ap (compress_block C C.initial) (take_all 64 k (omega arith)) in
      let r : rest k ≡ [] = ap (λ (i : ℕ). take i (drop (64 * (length k / 64)) k)) none in
      let l : length (k ++ m) ≡ 64 + length m = length-append k m ∙ ap (λ (i : ℕ). i + length m) h in
      ap digest (whole-rest C.initial k m (padding (length (k ++ m))) ∙ ap₂ whole b (ap₂ (λ (x : List ℕ) (i : ℕ). x ++ m ++ padding i) r l))

-- ---- any lawful compression function

module _ (C : Compression) (L : LawfulCompression C) where
  length-blocks : (s m : List ℕ) (k : ℕ) → length s ≡ C.count → length (blocks C s m k) ≡ C.count
  unfolding blocks compress_block
  length-blocks s m zero h = h
  length-blocks s m (suc k) h = L.length_compress (blocks C s m k) (words (take 64 (drop (64 * k) m)) 16)

  pub length-finish : (s m : List ℕ) (n : ℕ) → length s ≡ C.count → length (finish C s n m) ≡ C.count
  unfolding finish
  length-finish s m n h = length-blocks s (m ++ padding (n + length m)) (length (m ++ padding (n + length m)) / 64) h

  words-blocks : (s m : List ℕ) (k : ℕ) → Words s → Words (blocks C s m k)
  unfolding blocks compress_block
  words-blocks s m zero h = h
  words-blocks s m (suc k) h = L.words_compress (blocks C s m k) (words (take 64 (drop (64 * k) m)) 16)

  pub words-finish : (s m : List ℕ) (n : ℕ) → Words s → Words (finish C s n m)
  unfolding finish
  words-finish s m n h = words-blocks s (m ++ padding (n + length m)) (length (m ++ padding (n + length m)) / 64) h

  str_hash : (m : List ℕ) → Str (4 * C.count) (hash C m)
  unfolding hash
  str_hash m =
      let p : List ℕ = m ++ padding (length m) in
      let e : length (blocks C C.initial p (length p / 64)) ≡ C.count = length-blocks C.initial p (length p / 64) L.length_initial in
      str_cast (omega arith) (str_digest (blocks C C.initial p (length p / 64)))

  pub lawful-digest : LawfulDigest (chained C)
  lawful-digest =
      record { at_least = omega (arith, L.at_least); at_most = omega (arith, L.at_most); fits = omega (arith, L.at_most); str_hash = str_hash }
