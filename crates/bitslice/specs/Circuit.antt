-- The circuits of the S-box and of its inverse (Boyar and Peralta 2010) as lists of gates, and their values at words of any width.
use Rattle.std.specs.Prelude.{List, [], ◌∷◌, ◌++◌, ℕ, zero, suc, get_or}
use Rattle.std.specs.Int.Bits.{bit_xor, bit_and}

-- ---- circuits

-- the sum or the product of two wires
pub data Gate : Type 0 where
  xor : ℕ → ℕ → Gate
  and : ℕ → ℕ → Gate

-- what a gate gives, of the wires e
abbrev pub gate : Gate → List ℕ → ℕ
gate (xor i j) e = bit_xor (get_or e i 0) (get_or e j 0)
gate (and i j) e = bit_and (get_or e i 0) (get_or e j 0)

-- the wires e, and one more for each gate
abbrev pub run : List Gate → List ℕ → List ℕ
run [] e = e
run (g ∷ gs) e = run gs (e ++ (gate g e ∷ []))

-- the wires of e at the places of p
abbrev pub pick : List ℕ → List ℕ → List ℕ
pick [] e = []
pick (i ∷ p) e = get_or e i 0 ∷ pick p e

-- n wires of l from i on
abbrev pub reads : ℕ → ℕ → List ℕ → List ℕ
reads i zero l = []
reads i (suc n) l = get_or l i 0 ∷ reads (suc i) n l

-- a part of a circuit: its gates, and the places of the wires that leave it
pub record Part : Type 0 where
  pub gates : List Gate
  pub places : List ℕ

-- the wires that leave a part, e being those that enter it
abbrev pub through : Part → List ℕ → List ℕ
through p e = pick p.places (run p.gates e)

-- ---- the parts of the S-box and of its inverse

-- ten of the inputs of the products
unfoldable pub first_inputs : Part
first_inputs = record {
  gates =
      xor 4 2 ∷ xor 6 5 ∷ xor 9 0 ∷ xor 7 1 ∷ xor 7 4 ∷ xor 7 2 ∷ xor 10 4 ∷ xor 11 8 ∷ xor 10 1 ∷ xor 10 7 ∷ xor 16 13 ∷
      [];
  places = 10 ∷ 17 ∷ 18 ∷ 14 ∷ 16 ∷ 13 ∷ 12 ∷ 15 ∷ 11 ∷ 8 ∷ [];
}

-- these ten, of the eight words of bytes q
unfoldable pub first_inputs_of : List ℕ → List ℕ
first_inputs_of q = through first_inputs (reads 0 8 q)

-- the other twelve inputs of the products, a being the first ten
unfoldable pub second_inputs : Part
second_inputs = record {
  gates =
      xor 3 15 ∷ xor 18 6 ∷ xor 18 2 ∷ xor 19 14 ∷ xor 6 5 ∷ xor 0 21 ∷ xor 20 0 ∷ xor 22 21 ∷ xor 20 22 ∷ xor 26 13 ∷
      xor 16 25 ∷ xor 26 21 ∷ xor 7 25 ∷ [];
  places = 0 ∷ 24 ∷ 23 ∷ 26 ∷ 21 ∷ 20 ∷ 25 ∷ 29 ∷ 30 ∷ 27 ∷ 19 ∷ 28 ∷ [];
}

-- these twelve
unfoldable pub second_inputs_of : List ℕ → List ℕ → List ℕ
second_inputs_of q a = through second_inputs (reads 0 8 q ++ reads 0 10 a)

-- the element of the field of sixteen elements that is to be inverted
unfoldable pub norm : Part
norm = record {
  gates =
      and 9 17 ∷ and 5 13 ∷ and 6 14 ∷ and 4 0 ∷ xor 22 24 ∷ xor 23 24 ∷ and 3 10 ∷ and 2 11 ∷ and 7 15 ∷ and 8 16 ∷
      xor 28 30 ∷ xor 25 31 ∷ and 1 12 ∷ xor 32 27 ∷ xor 29 30 ∷ xor 34 31 ∷ xor 35 19 ∷ xor 33 26 ∷ xor 39 21 ∷
      xor 36 26 ∷ xor 37 27 ∷ xor 42 18 ∷ xor 41 20 ∷ [];
  places = 44 ∷ 38 ∷ 40 ∷ 43 ∷ [];
}

-- that element
unfoldable pub norm_of : List ℕ → List ℕ → List ℕ
norm_of a b = through norm (reads 0 10 a ++ reads 0 12 b)

-- the inversion in the field of sixteen elements
unfoldable pub inversion : Part
inversion = record {
  gates =
      and 0 2 ∷ xor 0 1 ∷ xor 3 4 ∷ xor 2 3 ∷ xor 1 4 ∷ and 8 7 ∷ and 5 6 ∷ xor 9 3 ∷ xor 2 11 ∷ xor 10 1 ∷ xor 6 11 ∷
      and 3 14 ∷ xor 6 15 ∷ xor 15 12 ∷ and 13 16 ∷ xor 5 18 ∷ [];
  places = 13 ∷ 11 ∷ 17 ∷ 19 ∷ [];
}

-- its inverse
unfoldable pub inversion_of : List ℕ → List ℕ
inversion_of t = through inversion (reads 0 4 t)

-- the products with the inverse u
unfoldable pub products : Part
products = record {
  gates =
      xor 22 23 ∷ xor 22 25 ∷ xor 25 24 ∷ xor 23 24 ∷ xor 26 28 ∷ and 29 15 ∷ and 24 11 ∷ and 23 10 ∷ and 27 16 ∷
      and 25 0 ∷ and 22 12 ∷ and 26 14 ∷ and 30 17 ∷ and 28 13 ∷ and 29 7 ∷ and 24 2 ∷ and 23 3 ∷ and 27 8 ∷ and 25 4 ∷
      and 22 1 ∷ and 26 6 ∷ and 30 9 ∷ and 28 5 ∷ [];
  places = 31 ∷ 32 ∷ 33 ∷ 34 ∷ 35 ∷ 36 ∷ 37 ∷ 38 ∷ 39 ∷ 40 ∷ 41 ∷ 42 ∷ 43 ∷ 44 ∷ 45 ∷ 46 ∷ 47 ∷ 48 ∷ [];
}

-- these products
unfoldable pub products_of : List ℕ → List ℕ → List ℕ → List ℕ
products_of a b u = through products (reads 0 10 a ++ reads 0 12 b ++ reads 0 4 u)

-- the sums of the products: the affine map (5.1.1) without its constant
unfoldable pub outputs : Part
outputs = record {
  gates =
      xor 15 16 ∷ xor 4 18 ∷ xor 6 7 ∷ xor 2 12 ∷ xor 2 5 ∷ xor 5 13 ∷ xor 3 20 ∷ xor 4 24 ∷ xor 9 10 ∷ xor 12 23 ∷
      xor 26 19 ∷ xor 0 3 ∷ xor 21 29 ∷ xor 7 8 ∷ xor 14 30 ∷ xor 18 30 ∷ xor 23 33 ∷ xor 31 19 ∷ xor 16 17 ∷ xor 24 28 ∷
      xor 32 35 ∷ xor 1 28 ∷ xor 10 11 ∷ xor 25 38 ∷ xor 29 39 ∷ xor 25 42 ∷ xor 27 35 ∷ xor 36 41 ∷ xor 22 39 ∷
      xor 40 38 ∷ [];
  places = 34 ∷ 44 ∷ 47 ∷ 46 ∷ 42 ∷ 45 ∷ 43 ∷ 37 ∷ [];
}

-- these sums
unfoldable pub outputs_of : List ℕ → List ℕ
outputs_of z = through outputs (reads 0 18 z)

-- for the inverse: ten of the inputs of the products
unfoldable pub inv_first_inputs : Part
inv_first_inputs = record {
  gates =
      xor 3 4 ∷ xor 4 6 ∷ xor 0 8 ∷ xor 4 7 ∷ xor 1 10 ∷ xor 6 7 ∷ xor 13 8 ∷ xor 14 12 ∷ xor 11 15 ∷ xor 9 12 ∷ [];
  places = 10 ∷ 17 ∷ 11 ∷ 16 ∷ 9 ∷ 13 ∷ 8 ∷ 15 ∷ 12 ∷ 14 ∷ [];
}

-- these ten, of the eight words of bytes q
unfoldable pub inv_first_inputs_of : List ℕ → List ℕ
inv_first_inputs_of q = through inv_first_inputs (reads 0 8 q)

-- for the inverse: the other twelve inputs of the products, a being the first ten
unfoldable pub inv_second_inputs : Part
inv_second_inputs = record {
  gates =
      xor 2 7 ∷ xor 4 13 ∷ xor 0 3 ∷ xor 5 14 ∷ xor 5 18 ∷ xor 9 18 ∷ xor 21 9 ∷ xor 19 22 ∷ xor 8 24 ∷ xor 14 23 ∷
      xor 8 19 ∷ xor 1 24 ∷ xor 28 27 ∷ [];
  places = 22 ∷ 19 ∷ 24 ∷ 28 ∷ 27 ∷ 25 ∷ 26 ∷ 30 ∷ 21 ∷ 20 ∷ 23 ∷ 29 ∷ [];
}

-- these twelve
unfoldable pub inv_second_inputs_of : List ℕ → List ℕ → List ℕ
inv_second_inputs_of q a = through inv_second_inputs (reads 0 8 q ++ reads 0 10 a)

-- for the inverse: the sums of the products
unfoldable pub inv_outputs : Part
inv_outputs = record {
  gates =
      xor 16 13 ∷ xor 4 3 ∷ xor 10 13 ∷ xor 12 18 ∷ xor 5 3 ∷ xor 15 21 ∷ xor 6 23 ∷ xor 0 22 ∷ xor 17 21 ∷ xor 8 24 ∷
      xor 7 24 ∷ xor 2 25 ∷ xor 1 27 ∷ xor 22 27 ∷ xor 25 19 ∷ xor 11 29 ∷ xor 9 26 ∷ xor 19 28 ∷ xor 11 34 ∷ xor 20 33 ∷
      xor 12 26 ∷ xor 31 29 ∷ xor 30 32 ∷ xor 23 36 ∷ xor 14 37 ∷ xor 40 42 ∷ xor 37 35 ∷ xor 38 44 ∷ xor 36 43 ∷ [];
  places = 41 ∷ 35 ∷ 40 ∷ 45 ∷ 39 ∷ 43 ∷ 46 ∷ 31 ∷ [];
}

-- these sums
unfoldable pub inv_outputs_of : List ℕ → List ℕ
inv_outputs_of z = through inv_outputs (reads 0 18 z)

-- the sum of each byte with 0x63, the constant of the affine map (5.1.1); one has a 1 in each lane
unfoldable pub constant_of : ℕ → List ℕ → List ℕ
constant_of one q =
    bit_xor (get_or q 0 0) one ∷ bit_xor (get_or q 1 0) one ∷ get_or q 2 0 ∷ get_or q 3 0 ∷ get_or q 4 0 ∷ bit_xor (get_or q 5 0) one
    ∷ bit_xor (get_or q 6 0) one ∷ get_or q 7 0 ∷ []

-- ---- the whole

-- what the two have in common, from the inputs of the products to the products with the inverse
abbrev pub middle_of : List ℕ → List ℕ → List ℕ
middle_of a b = products_of a b (inversion_of (norm_of a b))

-- the S-box (5.1.1) of each lane
unfoldable pub sbox_of : ℕ → List ℕ → List ℕ
sbox_of one q = constant_of one (outputs_of (middle_of (first_inputs_of q) (second_inputs_of q (first_inputs_of q))))

abbrev inverse_of : List ℕ → List ℕ
inverse_of c = inv_outputs_of (middle_of (inv_first_inputs_of c) (inv_second_inputs_of c (inv_first_inputs_of c)))

-- the inverse S-box (5.3.2) of each lane
unfoldable pub inv_sbox_of : ℕ → List ℕ → List ℕ
inv_sbox_of one q = inverse_of (constant_of one q)
