-- `Drive::check` meets its contract: each way out is a check that fails behind those that hold.
use mathlib.Core.Path.{◌≡◌, sym, ap, subst, ◌∙◌}
use mathlib.Core.List.{List}
use mathlib.Core.Bool.{true}
use Prim.Native.Nat.{ℕ, ◌≤◌, ◌%◌}
use native.Mathlib.Omega.{arith}
use lib.Dec.{eqb, leb}
use lib.ListN.{length}
use borrow.Author.Tests.{leb-true}
use Rattle.octets.specs.Splice.{part}
use Rattle.octets.proofs.BoolLaws.{true_by, false_by, and_split}
use Rattle.rules.specs.Checks.{Check}
use Rattle.rules.specs.Header.{size_ok, sound_checks, header_checks}
use Rattle.rules.proofs.ChecksLaws.{refused_by, first_pass}
use Rattle.profiles.specs.Suites.{built}
use Rattle.profiles.specs.declared.Profile.{Profile}
use Rattle.profiles.specs.Records.{IsProfile}
use Rattle.std.specs.Prelude.{Option, Some, IfSome}
use Rattle.std.specs.Option.{ok_or}
use Rattle.header.specs.declared.refusal.Refusal.TheVariants.{NoProfile}
use Rattle.header.specs.Refusals.{number, checked}
use Rattle.header.specs.Records.{facts_in, are_areas_ok}
use Rattle.header.proofs.AnswerLaws.{checked_err, bytes_same}
use Rattle.header.proofs.drive.Drive.check.Goals as goal

abbrev checks : List ℕ → List Check
checks m = header_checks built m

-- an image of a good size
size-least : (m : List ℕ) → size_ok m ≡ true → 1024 ≤ length m
unfolding size_ok
size-least m e = leb-true 1024 (length m) (and_split (leb 1024 (length m)) (eqb (length m % 512) 0) e).0

-- the profile that was found
row-of : (m : List ℕ) (o : Option Profile) (p : Profile) → IfSome o (λ p. IsProfile p (facts_in m).profile) → o ≡ Some p → IsProfile p (facts_in m).profile
row-of m o p h e = subst (λ (o : Option Profile). IfSome o (λ p. IsProfile p (facts_in m).profile)) e h

-- what refusal 6 asks, by the key's length of the profile that was found
areas-by : (m : List ℕ) (p : Profile) → IsProfile p (facts_in m).profile → are_areas_ok p.key_bytes (facts_in m) (length m) ≡ are_areas_ok (facts_in m).profile.key_bytes (facts_in m) (length m)
areas-by m p h = ap (λ (L : ℕ). are_areas_ok L (facts_in m) (length m)) h.key_is

pub returns-in_err-ensure-clause-number : goal.returns-in_err-ensure-clause-number
unfolding header_checks
returns-in_err-ensure-clause-number c =
    let r = c.in_err-ensure.ensures.refuses in
    checked_err _ _ c.from_residual.ensures.1 ∙ ap number r.0 ∙ refused_by (checks c.args.image.now) 0 tt (false_by c.size_ok.ensures r.1)

pub slice_bounds-eq-end : goal.slice_bounds-eq-end
slice_bounds-eq-end c = omega (arith, size-least c.args.image.now (true_by c.size_ok.ensures c.in_ok-ensure.ensures.passes))

pub returns-in_err-ensure-2-clause-number : goal.returns-in_err-ensure-2-clause-number
unfolding header_checks part
returns-in_err-ensure-2-clause-number c =
    let m = c.args.image.now in
    let e₁ = true_by c.size_ok.ensures c.in_ok-ensure.ensures.passes in
    let r = c.in_err-ensure-2.ensures.refuses in
    checked_err _ _ c.from_residual-in_err-ensure-2.ensures.1 ∙ ap number r.0 ∙ refused_by (checks m) 1 (e₁, tt) (false_by (c.eq.ensures ∙ bytes_same _ _) r.1)

pub slice_bounds-eq-end-3 : goal.slice_bounds-eq-end-3
slice_bounds-eq-end-3 c = omega (arith, size-least c.args.image.now (true_by c.size_ok.ensures c.in_ok-ensure.ensures.passes))

pub returns-in_err-ensure-3-clause-number : goal.returns-in_err-ensure-3-clause-number
unfolding header_checks part
returns-in_err-ensure-3-clause-number c =
    let m = c.args.image.now in
    let e₁ = true_by c.size_ok.ensures c.in_ok-ensure.ensures.passes in
    let e₂ = true_by (c.eq.ensures ∙ bytes_same _ _) c.in_ok-ensure-2.ensures.passes in
    let r = c.in_err-ensure-3.ensures.refuses in
    checked_err _ _ c.from_residual-in_err-ensure-3.ensures.1 ∙ ap number r.0 ∙ refused_by (checks m) 2 (e₁, (e₂, tt)) (false_by (c.eq-2.ensures ∙ bytes_same _ _) r.1)

pub invariant_of-head : goal.invariant_of-head
invariant_of-head c = record { room = size-least c.args.image.now (true_by c.size_ok.ensures c.in_ok-ensure.ensures.passes) }

pub returns-in_err-profile-clause-number : goal.returns-in_err-profile-clause-number
unfolding header_checks part
returns-in_err-profile-clause-number c =
    let m = c.args.image.now in
    let e₁ = true_by c.size_ok.ensures c.in_ok-ensure.ensures.passes in
    let e₂ = true_by (c.eq.ensures ∙ bytes_same _ _) c.in_ok-ensure-2.ensures.passes in
    let e₃ = true_by (c.eq-2.ensures ∙ bytes_same _ _) c.in_ok-ensure-3.ensures.passes in
    let h = c.in_err-profile.ensures in
    let r = ap checked h.value ∙ ap (λ (o : Option Profile). checked (ok_or o NoProfile)) h.ok_part in
    checked_err _ _ c.from_residual-in_err-profile.ensures.1 ∙ r ∙ refused_by (checks m) 3 (e₁, (e₂, (e₃, tt))) (sym (h.variant ∙ c.profile.ensures.found))

pub returns-in_err-ensure-4-clause-number : goal.returns-in_err-ensure-4-clause-number
unfolding header_checks part sound_checks
returns-in_err-ensure-4-clause-number c =
    let m = c.args.image.now in
    let e₁ = true_by c.size_ok.ensures c.in_ok-ensure.ensures.passes in
    let e₂ = true_by (c.eq.ensures ∙ bytes_same _ _) c.in_ok-ensure-2.ensures.passes in
    let e₃ = true_by (c.eq-2.ensures ∙ bytes_same _ _) c.in_ok-ensure-3.ensures.passes in
    let e₄ = sym (c.in_ok-profile.ensures.variant ∙ c.profile.ensures.found) in
    let r = c.in_err-ensure-4.ensures.refuses in
    checked_err _ _ c.from_residual-in_err-ensure-4.ensures.1 ∙ ap number r.0 ∙ refused_by (checks m) 4 (e₁, (e₂, (e₃, (e₄, tt)))) (false_by c.records_ok.ensures r.1)

pub areas_ok-requires : goal.areas_ok-requires
areas_ok-requires c = subst (λ (o : Option Profile). IfSome o (λ p. p.key_bytes ≤ 64)) c.in_ok-profile.ensures.ok_part c.profile.ensures.key

pub returns-in_err-ensure-5-clause-number : goal.returns-in_err-ensure-5-clause-number
unfolding header_checks part sound_checks
returns-in_err-ensure-5-clause-number c =
    let m = c.args.image.now in
    let e₁ = true_by c.size_ok.ensures c.in_ok-ensure.ensures.passes in
    let e₂ = true_by (c.eq.ensures ∙ bytes_same _ _) c.in_ok-ensure-2.ensures.passes in
    let e₃ = true_by (c.eq-2.ensures ∙ bytes_same _ _) c.in_ok-ensure-3.ensures.passes in
    let e₄ = sym (c.in_ok-profile.ensures.variant ∙ c.profile.ensures.found) in
    let e₅ = true_by c.records_ok.ensures c.in_ok-ensure-4.ensures.passes in
    let r = c.in_err-ensure-5.ensures.refuses in
    let row = row-of m _ _ c.profile.ensures.row c.in_ok-profile.ensures.ok_part in
    checked_err _ _ c.from_residual-in_err-ensure-5.ensures.1 ∙ ap number r.0
    ∙ refused_by (checks m) 5 (e₁, (e₂, (e₃, (e₄, (e₅, tt))))) (false_by (c.areas_ok.ensures ∙ areas-by m _ row) r.1)

pub invariant_of-result : goal.invariant_of-result
unfolding header_checks part sound_checks
invariant_of-result c =
    let m = c.args.image.now in
    let e₁ = true_by c.size_ok.ensures c.in_ok-ensure.ensures.passes in
    let e₂ = true_by (c.eq.ensures ∙ bytes_same _ _) c.in_ok-ensure-2.ensures.passes in
    let e₃ = true_by (c.eq-2.ensures ∙ bytes_same _ _) c.in_ok-ensure-3.ensures.passes in
    let e₄ = sym (c.in_ok-profile.ensures.variant ∙ c.profile.ensures.found) in
    let e₅ = true_by c.records_ok.ensures c.in_ok-ensure-4.ensures.passes in
    let row = row-of m _ _ c.profile.ensures.row c.in_ok-profile.ensures.ok_part in
    let e₆ = true_by (c.areas_ok.ensures ∙ areas-by m _ row) c.in_ok-ensure-5.ensures.passes in
    record { accepted = first_pass (checks m) (e₁, (e₂, (e₃, (e₄, (e₅, (e₆, tt)))))) }
