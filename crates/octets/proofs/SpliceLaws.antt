-- Laws of parts and splices: lengths, prefixes, a part of a splice, two splices.
use mathlib.Core.Path.{◌≡◌, refl, sym, ap, ◌∙◌}
use mathlib.Core.List.{List, [], ◌∷◌, ◌++◌, append_assoc, append-nil}
use Prim.Native.Nat.{ℕ, zero, suc, ◌+◌, ◌-◌, ◌≤◌, ◌<◌}
use native.Mathlib.Nat.{zero-add}
use native.Mathlib.Omega.{arith}
use lib.ListN.{get_or, length, take, drop, length-append, length-take, length-drop, take-append-drop}
use lib.Seq.{get_or-take, get_or-drop, take-append-le, drop-append-le, take_at, drop_at, drop-drop, length-take-le, take-take, take_all, drop-length, take-append-add, drop-append-add, paste, take-length}
use Rattle.octets.specs.Octets.{zeros, padded, be32_at}
use Rattle.octets.specs.Splice.{part, splice}
use Rattle.octets.proofs.OctetsLaws.{drop-zeros}

module _ {ℓ} {A : Type ℓ} where
  pub length_part : (l : List A) (o n : ℕ) → o + n ≤ length l → length (part l o n) ≡ n
  unfolding part
  length_part l o n h = simp (length-take, length-drop) (omega arith)

  pub length-splice : (l : List A) (o : ℕ) (b : List A) → o + length b ≤ length l → length (splice l o b) ≡ length l
  unfolding splice
  length-splice l o b h = simp (length-append, length-take, length-drop) (omega arith)

  -- where a prefix is known: both go on behind it
  pub part_skip : (a b : List A) (m o n : ℕ) → length a ≡ m → part (a ++ b) (m + o) n ≡ part b o n
  unfolding part
  part_skip a b m o n e = rw (← e) (ap (take n) (drop-append-add a b o))

  pub part-here : (a b : List A) (o n : ℕ) → o + n ≤ length a → part (a ++ b) o n ≡ part a o n
  unfolding part
  part-here a b o n h =
      ap (take n) (drop-append-le o a b (omega arith)) ∙ take-append-le n (drop o a) b (simp length-drop (omega arith))

  pub part_all : (a : List A) (n : ℕ) → length a ≡ n → part a 0 n ≡ a
  unfolding part
  part_all a n e = take_all n a (omega arith)

  pub splice_skip : (a b c : List A) (m o : ℕ) → length a ≡ m → splice (a ++ b) (m + o) c ≡ a ++ splice b o c
  unfolding splice
  splice_skip a b c m o e =
      let q : m + o + length c ≡ length a + (o + length c) = omega arith in
      rw q (rw (drop-append-add a b (o + length c)) (rw (← e) (rw (take-append-add a b o) (simp append_assoc))))

  pub splice-here : (a b c : List A) (o : ℕ) → o + length c ≤ length a → splice (a ++ b) o c ≡ splice a o c ++ b
  unfolding splice
  splice-here a b c o h =
      rw (take-append-le o a b (omega arith)) (rw (drop-append-le (o + length c) a b h) (simp append_assoc))

  -- the part up to the end of what was put in
  pub take-splice : (l : List A) (o : ℕ) (b : List A) → o ≤ length l → take (o + length b) (splice l o b) ≡ take o l ++ b
  unfolding splice
  take-splice l o b h =
      ap (take (o + length b)) (sym (append_assoc (take o l) b (drop (o + length b) l)))
      ∙ take_at (take o l ++ b) (drop (o + length b) l) (o + length b) (length-append (take o l) b ∙ ap (λ n. n + length b) (length-take-le o l h))

  pub splice_all : (a c : List A) → length c ≡ length a → splice a 0 c ≡ c
  unfolding splice
  splice_all a c e = rw (zero-add, e, drop-length a) (append-nil c)

  pub splice-nil : (l : List A) (o : ℕ) → splice l o [] ≡ l
  unfolding splice
  splice-nil l o = ap (λ (n : ℕ). take o l ++ drop n l) (let e : o + 0 ≡ o = omega arith in e) ∙ take-append-drop o l

  -- a part, from a to e, that was lent and given back as y
  pub splice-part : (l y : List A) (a e : ℕ) → a ≤ e → length y ≡ e - a → take a l ++ (y ++ drop (e - a) (drop a l)) ≡ splice l a y
  unfolding splice
  splice-part l y a e h n =
      let m : a + (e - a) ≡ a + length y = omega arith in
      ap (λ (z : List A). take a l ++ (y ++ z)) (drop-drop (e - a) a l ∙ ap (λ (k : ℕ). drop k l) m)

  -- ---- a part of a splice

  pub part-splice-same : (l : List A) (o : ℕ) (b : List A) → o + length b ≤ length l → part (splice l o b) o (length b) ≡ b
  unfolding splice part
  part-splice-same l o b h =
      rw (drop_at (take o l) (b ++ drop (o + length b) l) o (length-take-le o l (omega arith))) (take_at b _ (length b) refl)

  pub part-splice-before : (l : List A) (o : ℕ) (b : List A) (i n : ℕ) → i + n ≤ o → o ≤ length l → part (splice l o b) i n ≡ part l i n
  unfolding splice
  part-splice-before l o b i n h k =
      let q : i + n ≤ length (take o l) = simp length-take (omega arith) in
      part-here (take o l) (b ++ drop (o + length b) l) i n q
      ∙ sym (part-here (take o l) (drop o l) i n q) ∙ ap (λ x. part x i n) (take-append-drop o l)

  pub part-splice-after : (l : List A) (o : ℕ) (b : List A) (i n : ℕ) → o + length b ≤ i → o + length b ≤ length l → part (splice l o b) i n ≡ part l i n
  unfolding splice part
  part-splice-after l o b i n h k =
      let m : ℕ = o + length b in
      let e : i ≡ m + (i - m) = omega arith in
      let f : length (take o l ++ b) ≡ o + length b = simp (length-append, length-take) (omega arith) in
      ap (take n) (ap (λ x. drop i x) (sym (append_assoc (take o l) b (drop m l)))
      ∙ ap (λ x. drop x (take o l ++ b ++ drop m l)) (e ∙ ap (λ x. x + (i - m)) (sym f))
      ∙ drop-append-add (take o l ++ b) (drop m l) (i - m)
      ∙ drop-drop (i - m) m l ∙ ap (λ x. drop x l) (sym e))

  -- ---- two splices

  pub splice_over : (l : List A) (o : ℕ) (b c : List A) → length c ≡ length b → o + length b ≤ length l → splice (splice l o b) o c ≡ splice l o c
  unfolding splice
  splice_over l o b c e h =
      let f : length (take o l) ≡ o = length-take-le o l (omega arith) in
      let g : length (take o l ++ b) ≡ o + length b = simp (length-append, length-take) (omega arith) in
      rw (take_at (take o l) (b ++ drop (o + length b) l) o f)
      (rw (e, ← append_assoc (take o l) b (drop (o + length b) l))
      (rw (drop_at (take o l ++ b) (drop (o + length b) l) (o + length b) g)))

  -- for wish 11: two splices that share no element, in either order
  pub splice_comm : (l : List A) (o : ℕ) (b : List A) (p : ℕ) (c : List A) → o + length b ≤ p → p + length c ≤ length l
      → splice (splice l o b) p c ≡ splice (splice l p c) o b
  splice_comm l o b p c h k =
      let f : length (take p l) ≡ p = length-take-le p l (omega arith) in
      let g : o + length b ≤ length (take p l) = omega arith in
      let z : p ≡ p + 0 = omega arith in
      let le : take p l ++ drop p l ≡ l = take-append-drop p l in
      let one : (x : List A) → length x ≡ p → splice (x ++ drop p l) p c ≡ x ++ splice (drop p l) 0 c
      = λ x d. ap (λ k. splice (x ++ drop p l) k c) z ∙ splice_skip x (drop p l) c p 0 d in
      ap (λ x. splice (splice x o b) p c) (sym le)
      ∙ ap (λ x. splice x p c) (splice-here (take p l) (drop p l) b o g)
      ∙ one (splice (take p l) o b) (length-splice (take p l) o b g ∙ f)
      ∙ sym (splice-here (take p l) (splice (drop p l) 0 c) b o g)
      ∙ ap (λ x. splice x o b) (sym (one (take p l) f))
      ∙ ap (λ x. splice (splice x p c) o b) le

  -- one string behind another
  pub splice-next : (l : List A) (o : ℕ) (b : List A) (p : ℕ) (c : List A) → p ≡ o + length b → o ≤ length l
      → splice (splice l o b) p c ≡ splice l o (b ++ c)
  unfolding splice
  splice-next l o b p c e h =
      let m : ℕ = o + length b in
      let a : List A = take o l ++ b in
      let d : List A = drop (o + length (b ++ c)) l in
      let g : length a ≡ m = length-append (take o l) b ∙ ap (λ (n : ℕ). n + length b) (length-take-le o l h) in
      let f : p ≡ m + 0 = omega arith in
      let n : m + (0 + length c) ≡ o + length (b ++ c) = omega (arith, length-append b c) in
      ap (λ (x : List A). splice x p c) (sym (append_assoc (take o l) b (drop m l)))
      ∙ ap (λ (k : ℕ). splice (a ++ drop m l) k c) f
      ∙ splice_skip a (drop m l) c m 0 g
      ∙ ap (λ (x : List A). a ++ (c ++ x)) (drop-drop (0 + length c) m l ∙ ap (λ (k : ℕ). drop k l) n)
      ∙ append_assoc (take o l) b (c ++ d)
      ∙ ap (λ (x : List A). take o l ++ x) (sym (append_assoc b c d))

  -- a loop that copies all of b, in the words of `lib.Seq`
  pub splice-paste : (l : List A) (o : ℕ) (b : List A) (n : ℕ) → n ≡ length b → paste l o b n ≡ splice l o b
  unfolding splice
  splice-paste l o b n e = rw (e, take-length b, append_assoc)

  -- ---- a part of a part

  cut : (o n w : ℕ) (l : List A) → o + n ≤ w → take n (drop o (take w l)) ≡ take n (drop o l)
  cut zero n w l h = take-take n w l (omega arith)
  cut (suc o) n zero l h = absurd (omega arith)
  cut (suc o) n (suc w) [] h = refl
  cut (suc o) n (suc w) (x ∷ l) h = cut o n w l (omega arith)

  pub part-part : (l : List A) (a w o n : ℕ) → o + n ≤ w → part (part l a w) o n ≡ part l (a + o) n
  unfolding part
  part-part l a w o n h = cut o n w (drop a l) h ∙ ap (take n) (drop-drop o a l)

-- a number of four bytes inside a part
pub be32_at-part : (s : List ℕ) (a w o : ℕ) → o + 4 ≤ w → be32_at (part s a w) o ≡ be32_at s (a + o)
unfolding part be32_at
be32_at-part s a w o h =
    let g : (i : ℕ) → i < w → get_or (take w (drop a s)) i 0 ≡ get_or s (a + i) 0 = λ i l. get_or-take w (drop a s) i 0 l ∙ get_or-drop a s i 0 in
    let e : (k : ℕ) → a + (o + k) ≡ a + o + k = λ k. omega arith in
    rw (g o (omega arith), g (o + 1) (omega arith), g (o + 2) (omega arith), g (o + 3) (omega arith), e 1, e 2, e 3)

-- t laid at the front of zeros
pub splice-zeros : (n : ℕ) (t : List ℕ) → length t ≤ n → splice (zeros n) 0 t ≡ padded n t
unfolding splice
splice-zeros n t h = rw (zero-add (length t), drop-zeros (length t) n)
