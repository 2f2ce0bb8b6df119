-- Laws of work piece by piece: a turn and the end of a loop that does it in place, lengths, and that one undoes the other.
use mathlib.Core.Path.{◌≡◌, refl, sym, ap, ap₂, ◌∙◌}
use mathlib.Core.List.{List, [], ◌∷◌, ◌++◌, append_assoc, append-nil}
use Prim.Native.Nat.{ℕ, zero, suc, ◌+◌, ◌-◌, ◌*◌, ◌/◌, ◌≤◌, ◌<◌, min}
use native.Mathlib.Decide.{dec_le}
use native.Mathlib.Nat.{add-div_right, div-eq_of_lt, div-mul-le_self, lt-div-mul-add, mul_comm, mul-le-mul_right}
use native.Mathlib.Numerals.{add-one}
use native.Mathlib.Omega.{arith}
use lib.ListN.{length, take, drop, length-take, length-drop, length-append, take-append-drop}
use lib.Seq.{take-take, take_all, take_at, drop_at, length-take-le, drop-drop}
use Rattle.octets.specs.Octets.{Str}
use Rattle.octets.specs.Pieces.{pieces, piece_count, in_pieces}
use Rattle.octets.proofs.OctetsLaws.{str_cast, str_append, bytes_take, bytes_drop}

-- ---- the first piece

drop_none : (k : ℕ) (l : List ℕ) → (1 ≤ k → length l ≡ 0) → drop k l ≡ l
drop_none zero l h = refl
drop_none (suc k) [] h = refl
drop_none (suc k) (x ∷ l) h = absurd (let e : suc (length l) ≡ 0 = h (omega arith) in omega arith)

pub take_min : (D n : ℕ) (l : List ℕ) → n ≡ min D (length l) → take D l ≡ take n l
take_min D n l e = sym (take_all n (take D l) (omega (arith, length-take D l))) ∙ take-take n D l (omega arith)

pub drop_min : (D n : ℕ) (l : List ℕ) → n ≡ min D (length l) → drop D l ≡ drop n l
drop_min D n l e =
    let k : D ≡ n + (D - n) = omega arith in
    ap (λ (x : ℕ). drop x l) k ∙ sym (drop-drop (D - n) n l) ∙ drop_none (D - n) (drop n l) (λ h. length-drop n l ∙ omega arith)

-- ---- all pieces: the first and the others, or none

count_more : (D n : ℕ) → 1 ≤ D → 1 ≤ n → Dec (D ≤ n) → piece_count D n ≡ suc (piece_count D (n - D))
count_more D n hD hn (yes h) =
    let a : n + (D - 1) ≡ ((n - D) + (D - 1)) + D = omega arith in
    ap (λ (k : ℕ). k / D) a ∙ add-div_right ((n - D) + (D - 1)) hD ∙ add-one (piece_count D (n - D))
count_more D n hD hn (no h) =
    let a : n + (D - 1) ≡ (n - 1) + D = omega arith in
    let b : (n - D) + (D - 1) ≡ D - 1 = omega arith in
    let c : (n - 1) / D ≡ 0 = div-eq_of_lt (omega arith) in
    let d : (D - 1) / D ≡ 0 = div-eq_of_lt (omega arith) in
    ap (λ (k : ℕ). k / D) a ∙ add-div_right (n - 1) hD ∙ add-one ((n - 1) / D)
    ∙ ap suc (c ∙ sym d ∙ ap (λ (k : ℕ). k / D) (sym b))

count_none : (D : ℕ) → 1 ≤ D → piece_count D 0 ≡ 0
count_none D h = let b : 0 + (D - 1) ≡ D - 1 = omega arith in ap (λ (k : ℕ). k / D) b ∙ div-eq_of_lt (omega arith)

-- the pieces are enough
pub piece_count_covers : (D n : ℕ) → 1 ≤ D → n ≤ D * piece_count D n
piece_count_covers D n h = omega (arith, lt-div-mul-add {a = n + (D - 1)} {b = D} h, mul_comm D (piece_count D n))

-- a piece begins before the end
pub piece_inside : (D n j : ℕ) → 1 ≤ D → j < piece_count D n → D * j < n
piece_inside D n j h k =
    let a : (j + 1) * D ≤ piece_count D n * D = mul-le-mul_right D (let e : j + 1 ≤ piece_count D n = omega arith in e) in
    let b : piece_count D n * D ≤ n + (D - 1) = div-mul-le_self (n + (D - 1)) D in
    omega (arith, mul_comm D j)

module _ (D : ℕ) (hD : 1 ≤ D) (f : ℕ → List ℕ → List ℕ) where
  pub in_pieces_more : (u : ℕ) (x : List ℕ) → 1 ≤ length x → in_pieces D f u x ≡ f u (take D x) ++ in_pieces D f (suc u) (drop D x)
  unfolding in_pieces pieces
  in_pieces_more u x h =
      ap (λ (m : ℕ). pieces D f u m x) (count_more D (length x) hD h (dec_le D (length x)) ∙ ap (λ (n : ℕ). suc (piece_count D n)) (sym (length-drop D x)))

  pub in_pieces_none : (u : ℕ) (x : List ℕ) → length x ≡ 0 → in_pieces D f u x ≡ []
  unfolding in_pieces pieces
  in_pieces_none u x h = ap (λ (m : ℕ). pieces D f u m x) (ap (piece_count D) h ∙ count_none D hD)

  -- ---- a loop in place: what is done, and what is made of the rest, are together what is wanted, q

  -- one piece more, y in the place of n bytes
  pub pieces_step : (at n u : ℕ) (s s' y q : List ℕ) → at < length s → n ≡ min D (length s - at)
      → length y ≡ n → y ≡ f u (take n (drop at s)) → s' ≡ take at s ++ (y ++ drop (at + n) s)
      → take at s ++ in_pieces D f u (drop at s) ≡ q
      → take (at + n) s' ++ in_pieces D f (u + 1) (drop (at + n) s') ≡ q
  pieces_step at n u s s' y q ha en ly ey es e =
      let a : length (take at s) ≡ at = length-take-le at s (omega arith) in
      let b : length (take at s ++ y) ≡ at + n = length-append (take at s) y ∙ ap₂ ◌+◌ a ly in
      let s₁ : s' ≡ take at s ++ y ++ drop (at + n) s = es ∙ sym (append_assoc (take at s) y (drop (at + n) s)) in
      let t : take (at + n) s' ≡ take at s ++ y = ap (take (at + n)) s₁ ∙ take_at (take at s ++ y) (drop (at + n) s) (at + n) b in
      let r : drop (at + n) s' ≡ drop (at + n) s = ap (drop (at + n)) s₁ ∙ drop_at (take at s ++ y) (drop (at + n) s) (at + n) b in
      let ld : length (drop at s) ≡ length s - at = length-drop at s in
      let l : n ≡ min D (length (drop at s)) = omega arith in
      let x : take D (drop at s) ≡ take n (drop at s) = take_min D n (drop at s) l in
      let z : drop D (drop at s) ≡ drop (at + n) s = drop_min D n (drop at s) l ∙ drop-drop n at s in
      ap₂ (λ (x y : List ℕ). x ++ in_pieces D f (u + 1) y) t r
      ∙ ap (λ (k : ℕ). take at s ++ y ++ in_pieces D f k (drop (at + n) s)) (add-one u)
      ∙ append_assoc (take at s) y (in_pieces D f (suc u) (drop (at + n) s))
      ∙ ap (λ (w : List ℕ). take at s ++ w)
      (ap₂ ◌++◌ (ey ∙ ap (f u) (sym x)) (ap (in_pieces D f (suc u)) (sym z)) ∙ sym (in_pieces_more u (drop at s) (omega arith)))
      ∙ e

  pub pieces_end : (at u : ℕ) (s q : List ℕ) → length s ≤ at → take at s ++ in_pieces D f u (drop at s) ≡ q → s ≡ q
  pieces_end at u s q h e =
      sym (take_all at s h) ∙ sym (append-nil (take at s))
      ∙ ap (λ (x : List ℕ). take at s ++ x) (sym (in_pieces_none u (drop at s) (length-drop at s ∙ omega arith))) ∙ e

-- ---- lengths kept, and work undone, where P says which lengths a piece may have

nil : (x : List ℕ) → length x ≡ 0 → x ≡ []
nil [] e = refl
nil (a ∷ x) e = absurd (omega arith)

-- c is the first n of what c and r make, or all of it
cut : (c r : List ℕ) (n : ℕ) → length c ≤ n → (length c < n → length r ≡ 0) → (take n (c ++ r) ≡ c) × (drop n (c ++ r) ≡ r)
cut [] r zero h k = (refl, refl)
cut [] r (suc n) h k = let e : r ≡ [] = nil r (k (omega arith)) in rw e (refl, refl)
cut (x ∷ c) r zero h k = absurd (omega arith)
cut (x ∷ c) r (suc n) h k =
    let i = cut c r n (omega arith) (λ l. k (omega arith)) in
    (ap (λ y. x ∷ y) i.0, i.1)

first_piece : (D n : ℕ) (x : List ℕ) → Str n x → Str (min D n) (take D x)
first_piece D n x h = record { len = length-take D x ∙ omega (arith, h.len); byte = bytes_take D x h.byte }

other-pieces : (D n : ℕ) (x : List ℕ) → Str n x → Str (n - D) (drop D x)
other-pieces D n x h = record { len = length-drop D x ∙ omega (arith, h.len); byte = bytes_drop D x h.byte }

-- f keeps the length of a piece; g undoes f on a piece
abbrev Keeps : ℕ → (ℕ → Type 0) → (ℕ → List ℕ → List ℕ) → Type 0
Keeps D P f = (u n : ℕ) (x : List ℕ) → n ≤ D → P n → Str n x → Str n (f u x)

abbrev Undoes : ℕ → (ℕ → Type 0) → (ℕ → List ℕ → List ℕ) → (ℕ → List ℕ → List ℕ) → Type 0
Undoes D P g f = (u n : ℕ) (x : List ℕ) → n ≤ D → P n → Str n x → g u (f u x) ≡ x

-- P holds of the length of the first piece and of the rest
abbrev pub Cuts : ℕ → (ℕ → Type 0) → Type 0
Cuts D P = (n : ℕ) → P n → P (min D n) × P (n - D)

module _ (D : ℕ) (hD : 1 ≤ D) (P : ℕ → Type 0) (hP : Cuts D P) (f : ℕ → List ℕ → List ℕ) (hf : Keeps D P f) where
  str_pieces : (u m n : ℕ) (x : List ℕ) → n ≤ m * D → P n → Str n x → Str n (pieces D f u m x)
  unfolding pieces
  str_pieces u zero n x l p h = record { len = omega arith; byte = tt }
  str_pieces u (suc m) n x l p h =
      str_cast (omega arith)
      (str_append (hf u (min D n) (take D x) (omega arith) (hP n p).0 (first_piece D n x h))
      (str_pieces (suc u) m (n - D) (drop D x) (omega arith) (hP n p).1 (other-pieces D n x h)))

  undo_pieces : (g : ℕ → List ℕ → List ℕ) → Undoes D P g f → (u m n : ℕ) (x : List ℕ) → n ≤ m * D → P n → Str n x
      → pieces D g u m (pieces D f u m x) ≡ x
  unfolding pieces
  undo_pieces g hg u zero n x l p h = sym (nil x (omega (arith, h.len)))
  undo_pieces g hg u (suc m) n x l p h =
      let c = f u (take D x) in
      let r = pieces D f (suc u) m (drop D x) in
      let ch : Str (min D n) c = hf u (min D n) (take D x) (omega arith) (hP n p).0 (first_piece D n x h) in
      let rh : Str (n - D) r = str_pieces (suc u) m (n - D) (drop D x) (omega arith) (hP n p).1 (other-pieces D n x h) in
      let k = cut c r D (omega (arith, ch.len)) (λ l. omega (arith, ch.len, rh.len)) in
      rw (
        k.0,
        k.1,
        hg u (min D n) (take D x) (omega arith) (hP n p).0 (first_piece D n x h),
        undo_pieces g hg (suc u) m (n - D) (drop D x) (omega arith) (hP n p).1 (other-pieces D n x h),
      )
      (take-append-drop D x)

  enough : (n : ℕ) → n ≤ piece_count D n * D
  enough n =
      let a : n + (D - 1) < (n + (D - 1)) / D * D + D = lt-div-mul-add hD in
      omega arith

  pub str_in_pieces : (u n : ℕ) (x : List ℕ) → P n → Str n x → Str n (in_pieces D f u x)
  unfolding in_pieces
  str_in_pieces u n x p h = str_pieces u (piece_count D (length x)) n x (rw h.len (enough n)) p h

  pub undo_in_pieces : (g : ℕ → List ℕ → List ℕ) → Undoes D P g f → (u n : ℕ) (x : List ℕ) → P n → Str n x → in_pieces D g u (in_pieces D f u x) ≡ x
  unfolding in_pieces
  undo_in_pieces g hg u n x p h =
      ap (λ (k : ℕ). pieces D g u (piece_count D k) (pieces D f u (piece_count D (length x)) x)) ((str_in_pieces u n x p h).len ∙ sym h.len)
      ∙ undo_pieces g hg u (piece_count D (length x)) n x (rw h.len (enough n)) p h
