use mathlib.Core.Path.{◌≡◌, refl, sym, ap, ap₂, ◌∙◌}
use mathlib.Core.List.{List, ◌++◌}
use mathlib.Core.Bool.{true}
use Prim.Native.Nat.{ℕ, ◌+◌, ◌-◌, ◌*◌, ◌^◌, ◌≤◌, ◌<◌}
use native.Mathlib.Omega.{arith}
use lib.ListN.{length, take, drop}
use borrow.Author.Tests.{eqb-true, leb-true}
use Rattle.std.proofs.Common.{rules}
use Rattle.octets.specs.Splice.{part, splice}
use Rattle.octets.proofs.SpliceLaws.{length_part, length-splice, splice-part}
use Rattle.rules.specs.Facts.{enabled, slot_of}
use Rattle.rules.specs.Calls.{key_ok, count_ok, random_ok}
use Rattle.rules.specs.Step.{written, record_head, slot_writes, enable_writes}
use Rattle.rules.proofs.ArgumentLaws.{passphrase_in}
use Rattle.header.specs.Records.{facts_in}
use Rattle.header.proofs.SoundLaws.{sound}
use Rattle.slots.proofs.AreaLaws.{area_small, area-fits, some-stripes, slot-written, material_is}
use Rattle.slots.proofs.CostLaws.{few-values, derivation_counted}
use Rattle.slots.proofs.enable_slot.Goals as goal

-- ---- what the call requires

key-length : (image key : List ℕ) → key_ok (facts_in image) key ≡ true → length key ≡ (facts_in image).profile.key_bytes
unfolding key_ok
key-length image key h = eqb-true _ _ h

count_least : (image : List ℕ) (count : ℕ) → count_ok (facts_in image) count ≡ true → (facts_in image).profile.min_slot_count ≤ count
unfolding count_ok
count_least image count h = leb-true _ _ h

random-length : (image : List ℕ) (k : ℕ) (random : List ℕ) → random_ok (facts_in image) k random ≡ true
    → length random ≡ ((slot_of (facts_in image) k).stripes - 1) * (facts_in image).profile.key_bytes
unfolding random_ok
random-length image k random h = eqb-true _ _ h

-- ---- the image with the area of n bytes given back

lent_back : (m y : List ℕ) (at n : ℕ) → length y ≡ n → take at m ++ (y ++ drop (at + n - at) (drop at m)) ≡ splice m at y
lent_back m y at n e = splice-part m y at (at + n) (omega arith) (omega (arith, e))

-- ---- goals

pub overflow_mul-end : goal.overflow_mul-end
overflow_mul-end c =
    let m = c.args.image.now in
    let s = c.slot-s in
    omega (arith, area_small m c.requires.0 c.args.slot.number c.args.slot.in_range s.result s.ensures _ (key-length m c.args.key.now c.requires.1))

pub overflow_add-end : goal.overflow_add-end
overflow_add-end c =
    let m = c.args.image.now in
    let s = c.slot-s in
    omega (arith, area_small m c.requires.0 c.args.slot.number c.args.slot.in_range s.result s.ensures _ (key-length m c.args.key.now c.requires.1))

pub slice_bounds-fill-end : goal.slice_bounds-fill-end
slice_bounds-fill-end c =
    let m = c.args.image.now in
    let s = c.slot-s in
    omega (arith, area-fits m c.requires.0 c.args.slot.number c.args.slot.in_range s.result s.ensures _ (key-length m c.args.key.now c.requires.1))

pub fill-made-requires : goal.fill-made-requires
unfolding part
fill-made-requires c =
    let m = c.args.image.now in
    let g = sound m c.requires.0 in
    let r = c.slot-s in
    let x = c.args.input in
    let n = r.result.stripes in
    let at = r.result.start.0 * 512 in
    let L = length c.args.key.now in
    let k = key-length m c.args.key.now c.requires.1 in
    let room = area-fits m c.requires.0 c.args.slot.number c.args.slot.in_range r.result r.ensures L k in
    let l = length_part m at (at + n * L - at) (omega (arith, room)) in (
      some-stripes m c.requires.0 c.args.slot.number c.args.slot.in_range r.result r.ensures L k,
      omega (arith, l),
      random-length m c.args.slot.number x.random.now c.requires.4 ∙ sym (ap₂ (λ x y. (x - 1) * y) r.ensures.stripes_is k),
      omega (arith, k, g.key_least),
      omega (arith, k, g.key_most),
      omega (arith, k, g.key_whole),
      omega (arith, count_least m x.count c.requires.3, g.slot_count_least),
      omega (arith, (passphrase_in x.passphrase.now c.requires.2).1),
      search rules,
    )

pub put_head-requires : goal.put_head-requires
put_head-requires c =
    let m = c.args.image.now in
    let r = c.slot-s in
    let L = length c.args.key.now in
    let at = r.result.start.0 * 512 in
    let y = c.fill-made.new.area in
    let e : length y ≡ r.result.stripes * L = search rules in
    let room = area-fits m c.requires.0 c.args.slot.number c.args.slot.in_range r.result r.ensures L (key-length m c.args.key.now c.requires.1) in
    omega (arith, ap length (lent_back m y at _ e), length-splice m at y (omega (arith, e, room)), (sound m c.requires.0).size)

pub returns : goal.returns
unfolding enable_writes
returns c =
    let m = c.args.image.now in
    let k = c.args.slot.number in
    let key = c.args.key.now in
    let x = c.args.input in
    let g = c.hash-hash in
    let r = c.slot-s in
    let area = c.fill-made.new.area in
    let l = key-length m key c.requires.1 in
    let e = material_is m g.result g.ensures k r.result.stripes (length key) x.count key x.passphrase.now x.salt.now x.random.now area r.ensures.stripes_is l c.fill-made.ensures.0 in
    let f : length area ≡ r.result.stripes * length key = search rules in
    let b = lent_back m area (r.result.start.0 * 512) _ f in
    let w = slot-written m k r.result.start.0 r.ensures.start_is area _ _ _ b c.put_head.ensures.0 in
    let v = c.fill-made.ensures.1 in
    let n : x.count < 2 ^ 32 = search rules in (
      w ∙ ap (λ (y : List ℕ). written (slot_writes (facts_in m) k y (record_head enabled x.count x.salt.now)) m) e,
      c.put_head.ensures.1,
      derivation_counted m g.result g.ensures x.count (length key) x.count c.fill-made.result refl l v,
      omega (arith, v, few-values g.result x.count (length key) n (omega (arith, l, (sound m c.requires.0).key_most))),
    )
