-- each way out is a check that fails behind those that hold
use Rattle.std.proofs.Common.{◌≡◌, ◌*◌, ◌∙◌, ℕ, List, leb, eqb, length, sym, ap, subst}
use borrow.Author.Tests.{leb-true}
use Rattle.std.specs.Prelude.{Option, Some, IfSome}
use Rattle.std.specs.Option.{ok_or}
use Rattle.octets.proofs.BoolLaws.{true_by, false_by, and_split}
use Rattle.rules.specs.Checks.{Check}
use Rattle.rules.specs.Profiles.{profile_at}
use Rattle.rules.specs.Format.{format_checks}
use Rattle.rules.proofs.ChecksLaws.{refused_by, all_pass}
use Rattle.profiles.specs.Rows.{rows}
use Rattle.profiles.specs.Suites.{built}
use Rattle.profiles.specs.Records.{IsRow}
use Rattle.profiles.specs.declared.Profile.{Profile}
use Rattle.header.specs.declared.refusal.Refusal.TheVariants.{UnknownProfile}
use Rattle.header.specs.Refusals.{number, checked}
use Rattle.header.proofs.AnswerLaws.{checked_err}
use Rattle.formatting.specs.declared.FormatInput.{FormatInput}
use Rattle.formatting.specs.Inputs.{salted}
use Rattle.formatting.proofs.FormatLaws.{row_most, start_is}
use Rattle.formatting.proofs.checks.format_check.Goals as goal

abbrev checks : FormatInput → List ℕ → List ℕ → List Check
checks i salt image = format_checks built (salted i salt) image

-- the row that was found
row_of : (k : ℕ) (o : Option Profile) (p : Profile) → IfSome o (IsRow k) → o ≡ Some p → IsRow k p
row_of k o p h e = subst (λ (o : Option Profile). IfSome o (IsRow k)) e h

key-test : (k n : ℕ) (p : Profile) → IsRow k p → eqb n p.key_bytes ≡ eqb n (profile_at rows k).key_bytes
key-test k n p h = ap (eqb n) h.profile_is.key_is

count-test : (k n : ℕ) (p : Profile) → IsRow k p → leb p.min_checksum_count n ≡ leb (profile_at rows k).min_checksum_count n
count-test k n p h = ap (λ (m : ℕ). leb m n) h.profile_is.checksum_count_is

pub returns-in_err-ensure-clause-number : goal.returns-in_err-ensure-clause-number
unfolding format_checks
returns-in_err-ensure-clause-number c salt =
    let r = c.in_err-ensure.ensures.refuses in
    checked_err _ _ c.from_residual.ensures.1 ∙ ap number r.0 ∙ refused_by (checks c.args.input salt c.args.image.now) 0 tt (false_by c.size_ok.ensures r.1)

pub returns-in_err-p-clause-number : goal.returns-in_err-p-clause-number
unfolding format_checks
returns-in_err-p-clause-number c salt =
    let e₁ = true_by c.size_ok.ensures c.in_ok-ensure.ensures.passes in
    let h = c.in_err-p.ensures in
    let r = ap checked h.value ∙ ap (λ (o : Option Profile). checked (ok_or o UnknownProfile)) h.ok_part in
    checked_err _ _ c.from_residual-in_err-p.ensures.1 ∙ r
    ∙ refused_by (checks c.args.input salt c.args.image.now) 1 (e₁, tt) (sym (h.variant ∙ c.with_number.ensures.known))

pub returns-in_err-ensure-2-clause-number : goal.returns-in_err-ensure-2-clause-number
unfolding format_checks
returns-in_err-ensure-2-clause-number c salt =
    let e₁ = true_by c.size_ok.ensures c.in_ok-ensure.ensures.passes in
    let e₂ = sym (c.in_ok-p.ensures.variant ∙ c.with_number.ensures.known) in
    let r = c.in_err-ensure-2.ensures.refuses in
    checked_err _ _ c.from_residual-in_err-ensure-2.ensures.1 ∙ ap number r.0
    ∙ refused_by (checks c.args.input salt c.args.image.now) 2 (e₁, (e₂, tt)) (false_by c.stripes_ok.ensures r.1)

pub returns-in_err-ensure-3-clause-number : goal.returns-in_err-ensure-3-clause-number
unfolding format_checks
returns-in_err-ensure-3-clause-number c salt =
    let i = c.args.input in
    let p = c.in_ok-p.p in
    let row = row_of i.profile _ p c.with_number.ensures.row c.in_ok-p.ensures.ok_part in
    let e₁ = true_by c.size_ok.ensures c.in_ok-ensure.ensures.passes in
    let e₂ = sym (c.in_ok-p.ensures.variant ∙ c.with_number.ensures.known) in
    let e₃ = true_by c.stripes_ok.ensures c.in_ok-ensure-2.ensures.passes in
    let r = c.in_err-ensure-3.ensures.refuses in
    checked_err _ _ c.from_residual-in_err-ensure-3.ensures.1 ∙ ap number r.0
    ∙ refused_by (checks i salt c.args.image.now) 3 (e₁, (e₂, (e₃, tt))) (false_by (key-test i.profile (length i.key.now) p row) r.1)

pub returns-in_err-ensure-4-clause-number : goal.returns-in_err-ensure-4-clause-number
unfolding format_checks
returns-in_err-ensure-4-clause-number c salt =
    let i = c.args.input in
    let p = c.in_ok-p.p in
    let row = row_of i.profile _ p c.with_number.ensures.row c.in_ok-p.ensures.ok_part in
    let e₁ = true_by c.size_ok.ensures c.in_ok-ensure.ensures.passes in
    let e₂ = sym (c.in_ok-p.ensures.variant ∙ c.with_number.ensures.known) in
    let e₃ = true_by c.stripes_ok.ensures c.in_ok-ensure-2.ensures.passes in
    let e₄ = true_by (key-test i.profile (length i.key.now) p row) c.in_ok-ensure-3.ensures.passes in
    let r = c.in_err-ensure-4.ensures.refuses in
    checked_err _ _ c.from_residual-in_err-ensure-4.ensures.1 ∙ ap number r.0
    ∙ refused_by (checks i salt c.args.image.now) 4 (e₁, (e₂, (e₃, (e₄, tt)))) (false_by (count-test i.profile i.count p row) r.1)

pub returns-in_err-ensure-5-clause-number : goal.returns-in_err-ensure-5-clause-number
unfolding format_checks
returns-in_err-ensure-5-clause-number c salt =
    let i = c.args.input in
    let p = c.in_ok-p.p in
    let row = row_of i.profile _ p c.with_number.ensures.row c.in_ok-p.ensures.ok_part in
    let e₁ = true_by c.size_ok.ensures c.in_ok-ensure.ensures.passes in
    let e₂ = sym (c.in_ok-p.ensures.variant ∙ c.with_number.ensures.known) in
    let e₃ = true_by c.stripes_ok.ensures c.in_ok-ensure-2.ensures.passes in
    let e₄ = true_by (key-test i.profile (length i.key.now) p row) c.in_ok-ensure-3.ensures.passes in
    let e₅ = true_by (count-test i.profile i.count p row) c.in_ok-ensure-4.ensures.passes in
    let r = c.in_err-ensure-5.ensures.refuses in
    checked_err _ _ c.from_residual-in_err-ensure-5.ensures.1 ∙ ap number r.0
    ∙ refused_by (checks i salt c.args.image.now) 5 (e₁, (e₂, (e₃, (e₄, (e₅, tt))))) (false_by c.uuid_ok.ensures r.1)

pub invariant_of-layout : goal.invariant_of-layout
invariant_of-layout c =
    let i = c.args.input in
    let p = c.in_ok-p.p in
    let row = row_of i.profile _ p c.with_number.ensures.row c.in_ok-p.ensures.ok_part in
    let e₃ = true_by c.stripes_ok.ensures c.in_ok-ensure-2.ensures.passes in
    record { stripes_most = leb-true _ _ (and_split (leb 1 i.stripes) (leb i.stripes 4000) e₃).1; key_most = row_most i.profile p row }

pub returns-in_err-ensure-6-clause-number : goal.returns-in_err-ensure-6-clause-number
unfolding format_checks
returns-in_err-ensure-6-clause-number c salt =
    let i = c.args.input in
    let p = c.in_ok-p.p in
    let row = row_of i.profile _ p c.with_number.ensures.row c.in_ok-p.ensures.ok_part in
    let e₁ = true_by c.size_ok.ensures c.in_ok-ensure.ensures.passes in
    let e₂ = sym (c.in_ok-p.ensures.variant ∙ c.with_number.ensures.known) in
    let e₃ = true_by c.stripes_ok.ensures c.in_ok-ensure-2.ensures.passes in
    let e₄ = true_by (key-test i.profile (length i.key.now) p row) c.in_ok-ensure-3.ensures.passes in
    let e₅ = true_by (count-test i.profile i.count p row) c.in_ok-ensure-4.ensures.passes in
    let e₆ = true_by c.uuid_ok.ensures c.in_ok-ensure-5.ensures.passes in
    let s = start_is (salted i salt) p row c.payload_start.result.0 c.payload_start.ensures.0 in
    let r = c.in_err-ensure-6.ensures.refuses in
    checked_err _ _ c.from_residual-in_err-ensure-6.ensures.1 ∙ ap number r.0
    ∙ refused_by (checks i salt c.args.image.now) 6 (e₁, (e₂, (e₃, (e₄, (e₅, (e₆, tt))))))
    (false_by (ap (λ (n : ℕ). leb (n * 512) (length c.args.image.now)) s) r.1)

pub returns-clause-number : goal.returns-clause-number
unfolding format_checks
returns-clause-number c salt =
    let i = c.args.input in
    let p = c.in_ok-p.p in
    let row = row_of i.profile _ p c.with_number.ensures.row c.in_ok-p.ensures.ok_part in
    let e₁ = true_by c.size_ok.ensures c.in_ok-ensure.ensures.passes in
    let e₂ = sym (c.in_ok-p.ensures.variant ∙ c.with_number.ensures.known) in
    let e₃ = true_by c.stripes_ok.ensures c.in_ok-ensure-2.ensures.passes in
    let e₄ = true_by (key-test i.profile (length i.key.now) p row) c.in_ok-ensure-3.ensures.passes in
    let e₅ = true_by (count-test i.profile i.count p row) c.in_ok-ensure-4.ensures.passes in
    let e₆ = true_by c.uuid_ok.ensures c.in_ok-ensure-5.ensures.passes in
    let s = start_is (salted i salt) p row c.payload_start.result.0 c.payload_start.ensures.0 in
    let e₇ = true_by (ap (λ (n : ℕ). leb (n * 512) (length c.args.image.now)) s) c.in_ok-ensure-6.ensures.passes in
    all_pass (checks i salt c.args.image.now) (e₁, (e₂, (e₃, (e₄, (e₅, (e₆, (e₇, tt)))))))
