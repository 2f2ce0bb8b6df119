-- Laws of an area: what filling and the candidate come to, lengths, and merging group by group over any diffusion function.
use mathlib.Core.Path.{◌≡◌, refl, sym, ap, ap₂, ◌∙◌}
use mathlib.Core.List.{List}
use Prim.Native.Nat.{ℕ, zero, suc, ◌+◌, ◌-◌, ◌*◌, ◌<◌, ◌≤◌}
use native.Mathlib.Nat.{mul-le-mul_right}
use native.Mathlib.Omega.{arith}
use lib.ListN.{length, take, drop, length-drop}
use lib.Seq.{take_all, drop-drop}
use Rattle.digest.specs.Digest.{Digest}
use Rattle.pbkdf2.specs.Pbkdf2.{pbkdf2}
use Rattle.suite.specs.Split.{running, split, merge_from, merge}
use Rattle.suite.specs.Units.{in_units}
use Rattle.suite.proofs.SplitLaws.{merge_from-append}
use Rattle.splitter.specs.Diffuse.{diffuse}
use Rattle.xts.specs.Xts.{xts_encrypt, xts_decrypt}
use Rattle.xts.proofs.UnitLaws.{units_split}
use Rattle.rules.specs.Facts.{slot_input, key_material, candidate_of}
use Rattle.profiles.specs.Suites.{aes_xts}

-- ---- the two calls, over any digest

module _ (H : Digest) where
  pub key_material-is : (L n count : ℕ) (key passphrase salt random a₁ a₂ k : List ℕ) → a₁ ≡ split (diffuse H) L n random key
      → k ≡ pbkdf2 H passphrase salt count L → a₂ ≡ in_units (xts_encrypt k) 0 a₁
      → a₂ ≡ key_material (aes_xts H) L n key (slot_input passphrase salt count random)
  unfolding key_material aes_xts
  key_material-is L n count key passphrase salt random a₁ a₂ k e₁ ek e₂ =
      e₂ ∙ ap₂ (λ (x y : List ℕ). in_units (xts_encrypt x) 0 y) ek e₁

  pub candidate_of-is : (L n count : ℕ) (passphrase salt area d k : List ℕ) (f : ℕ → List ℕ → List ℕ) → k ≡ pbkdf2 H passphrase salt count L
      → f ≡ xts_decrypt k → d ≡ merge (diffuse H) L n (in_units f 0 area)
      → d ≡ candidate_of (aes_xts H) L n passphrase salt count area
  unfolding candidate_of aes_xts
  candidate_of-is L n count passphrase salt area d k f ek ef e =
      e ∙ ap (λ (g : ℕ → List ℕ → List ℕ). merge (diffuse H) L n (in_units g 0 area)) (ef ∙ ap xts_decrypt ek)

-- ---- how many stripes are left, where a group holds per of them

module _ (L per left : ℕ) (e : per * L ≡ 16384) where
  pub more_left : 16384 < left * L → per < left
  more_left h = go (left - per) refl
    where
      go : (k : ℕ) → left - per ≡ k → per < left
      go (suc k) q = omega arith
      go zero q = absurd (let b : left ≤ per = omega arith in let m : left * L ≤ per * L = mul-le-mul_right L b in omega arith)

  pub less_left : (x : ℕ) → per < left → left * L ≡ x → (left - per) * L ≡ x - 16384
  less_left x h f =
      let a : left ≡ (left - per) + per = omega arith in
      let b : left * L ≡ ((left - per) + per) * L = ap (λ (n : ℕ). n * L) a in
      omega arith

-- ---- merging group by group; f is what a unit becomes

module _ (H : List ℕ → List ℕ) (L : ℕ) (f : ℕ → List ℕ → List ℕ) (at u left : ℕ) (d d' area q : List ℕ) (ld : length d ≡ L)
    (e : merge_from H L d (left - 1) (in_units f u (drop at area)) ≡ q) where
  -- 32 units more, of per stripes, lent up to index at + 16384; v is the number of the next
  pub merge_more : (per v : ℕ) → per < left → per * L ≡ 16384 → v ≡ u + 32
      → length (in_units f u (take (at + 16384 - at) (drop at area))) ≡ 16384
      → d' ≡ running H (length d) d per (in_units f u (take (at + 16384 - at) (drop at area)))
      → merge_from H L d' (left - per - 1) (in_units f v (drop (at + 16384) area)) ≡ q
  merge_more per v hl hp hv ly ed =
      let z : at + 16384 - at ≡ 16384 = omega arith in
      let j : left - per - 1 ≡ (left - 1) - per = omega arith in
      let y : List ℕ = in_units f u (take 16384 (drop at area)) in
      let r : List ℕ = in_units f (u + 32) (drop 16384 (drop at area)) in
      let y' : in_units f u (take (at + 16384 - at) (drop at area)) ≡ y = ap (λ (n : ℕ). in_units f u (take n (drop at area))) z in
      let r' : in_units f v (drop (at + 16384) area) ≡ r = ap₂ (λ (n : ℕ) (x : List ℕ). in_units f n x) hv (sym (drop-drop 16384 at area)) in
      ap₂ (λ (n : ℕ) (x : List ℕ). merge_from H L d' n x) j r'
      ∙ ap (λ (x : List ℕ). merge_from H L x (left - 1 - per) r) (ed ∙ ap₂ (λ (n : ℕ) (x : List ℕ). running H n d per x) ld y')
      ∙ sym (merge_from-append H L (left - 1) per d y r (omega arith) (sym (ap length y') ∙ ly ∙ sym hp))
      ∙ ap (merge_from H L d (left - 1)) (sym (units_split f 32 u (drop at area)))
      ∙ e

  -- the last group, lent up to the area's end
  pub merge-end : d' ≡ merge_from H (length d) d (left - 1) (in_units f u (take (length area - at) (drop at area))) → d' ≡ q
  merge-end ed =
      let a : take (length area - at) (drop at area) ≡ drop at area = take_all (length area - at) (drop at area) (omega (arith, length-drop at area)) in
      ed ∙ ap₂ (λ (n : ℕ) (y : List ℕ). merge_from H n d (left - 1) (in_units f u y)) ld a ∙ e
