-- `laying::lay_details` meets its contract.
use mathlib.Core.List.{map-map}
use Rattle.std.proofs.Common.{rules, ◌≡◌, ◌∙◌, refl, sym, false, ℕ, List, cond, length, map}
use Rattle.screens.specs.Screens.{Details, no_details}
use Rattle.screens.specs.Entries.{details_in}
use Rattle.screens.specs.declared.Entry.{Entry}
use Rattle.screens.proofs.MappedLaws.{mapped}
use Rattle.laying.proofs.lay_details.Goals as goal

pub returns-in-Ok : goal.returns-in-Ok
returns-in-Ok c =
    let entries = c.in-Ok.entries in
    let zero : Entry = record { enabled = false; count = 0; start = record { 0 = 0 }; stripes = 0 } in
    let long : length entries ≡ 8 = search rules in
    let field : (f : Details → ℕ) (l : List ℕ) → l ≡ map (λ e. f (details_in e)) entries → l ≡ map f (map details_in entries) = λ f l h. h ∙ sym (map-map f details_in entries) in
    rw c.in-Ok.is (
      refl,
      field (λ d. d.enabled) _ (mapped (λ e. cond e.enabled 1 0) zero 0 (λ p q x y k. search (rules, k)) long c.map.ensures.items),
      field (λ d. d.count) _ (mapped (λ e. e.count) zero 0 (λ p q x y k. search (rules, k)) long c.map-in-Ok.ensures.items),
      field (λ d. d.start) _ (mapped (λ e. e.start.0) zero 0 (λ p q x y k. search (rules, k)) long c.map-in-Ok-2.ensures.items),
      field (λ d. d.stripes) _ (mapped (λ e. e.stripes) zero 0 (λ p q x y k. search (rules, k)) long c.map-in-Ok-3.ensures.items),
    )

pub returns-in-Err : goal.returns-in-Err
unfolding no_details
returns-in-Err c = rw c.in-Err.is (c.from.ensures, refl, refl, refl, refl)
