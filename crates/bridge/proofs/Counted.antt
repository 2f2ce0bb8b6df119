-- Wish 6 of 02, of what the functions return: along a trace the numbers are the ledger's, and an opening's is bounded on every image.
use mathlib.Core.Path.{◌≡◌, refl, sym, ap, ap₂, ◌∙◌}
use mathlib.Core.List.{List, [], ◌∷◌, map}
use Prim.Native.Nat.{ℕ, ◌^◌, ◌≤◌, ◌<◌}
use native.Mathlib.Omega.{arith}
use Rattle.rules.specs.Profiles.{aligned}
use Rattle.rules.specs.Facts.{facts_of}
use Rattle.rules.specs.Calls.{Call, add, change, revoke, open_slot, open_any, read, write}
use Rattle.rules.specs.Step.{After}
use Rattle.rules.specs.Format.{FormatInput}
use Rattle.rules.specs.Costs.{trials_cost, cost_on}
use Rattle.rules.specs.Promises.{DoesFormat}
use Rattle.rules.proofs.AlignedLaws.{aligned-lawful}
use Rattle.rules.proofs.CostLaws.{opening_costs, search_opened}
use Rattle.profiles.specs.Suites.{alignment, built}
use Rattle.profiles.proofs.Lawful.{built-lawful}
use Rattle.ledger.specs.Demand3.{FormatTyped, AllTyped}
use Rattle.ledger.specs.Costs.{run_costs}
use Rattle.ledger.proofs.CostLaws.{run_costs-aligned, costs_follow}
use Rattle.bridge.specs.Trace.{Returned, listed, changed, opened, filled, opening, kind_of, Ensured, image_left, values_in, Trace}
use Rattle.bridge.specs.Counted.{CountsFollow, OpeningsCounted}
use Rattle.bridge.proofs.Bridge.{other, ensured_step}

-- ---- from what a function ensures to the rules

ensured_values : (image : List ℕ) (c : Call) (r : Returned) → Ensured image c r → values_in r ≡ cost_on built image c
unfolding values_in
ensured_values image c (listed r after list v) e = e.1.values_are
ensured_values image c (changed r after v) e = e.1.values_are
ensured_values image c (opened r slot key_length key v) e = e.1.values_are
ensured_values image c (filled r buffer v) e = e.1.values_are

trace_values : (image : List ℕ) (cs : List Call) (rs : List Returned) → Trace image cs rs → map values_in rs ≡ run_costs built image cs
unfolding run_costs
trace_values image [] [] t = refl
trace_values image [] (r ∷ rs) t = absurd t
trace_values image (c ∷ cs) [] t = absurd t
trace_values image (c ∷ cs) (r ∷ rs) t =
    ap₂ ◌∷◌ (ensured_values image c r t.0)
    (trace_values (image_left image r) cs rs t.1 ∙ ap (λ (x : After). run_costs built x.image cs) (sym (ensured_step image c r t.0)))

-- ---- the ledger foretells the numbers

-- on a drive that was formatted with any alignment
pub counts_aligned : (A : ℕ) → 1 ≤ A → A < 2 ^ 32 → (a : FormatInput) → FormatTyped a → (image after : List ℕ) (v : ℕ) → DoesFormat (aligned built A) a image 0 after v
    → (cs : List Call) → AllTyped cs → (rs : List Returned) → Trace after cs rs → CountsFollow (aligned built A) a image v cs rs
counts_aligned A l m a typed image after v f cs t rs trace =
    let table = aligned built A in
    let c = costs_follow table (aligned-lawful built A built-lawful l m) a typed image (sym f.code_is) cs t in
    record {
      format_is = f.values_are ∙ c.format_is;
      values_are = trace_values after cs rs trace ∙ sym (run_costs-aligned built A after cs) ∙ ap (λ (x : List ℕ). run_costs table x cs) f.image_is ∙ c.values_are;
    }

-- and on one that format's function made
pub counts_follow : (a : FormatInput) → FormatTyped a → (image after : List ℕ) (v : ℕ) → DoesFormat built a image 0 after v → (cs : List Call) → AllTyped cs
    → (rs : List Returned) → Trace after cs rs → CountsFollow built a image v cs rs
counts_follow = counts_aligned alignment (omega arith) (omega arith)

-- ---- openings, on any image

module _ (image : List ℕ) where
  opening_most : (c : Call) → kind_of c ≡ opening → cost_on built image c ≤ trials_cost (facts_of built image) 1 8
  opening_most (add k key x list) h = other h refl
  opening_most (change k passphrase to x filler list) h = other h refl
  opening_most (revoke k filler list) h = other h refl
  opening_most (open_slot k passphrase) h = (opening_costs built).slot_most image k passphrase
  opening_most (open_any passphrase) h = (opening_costs built).search_most image passphrase
  opening_most (read key u n buffer) h = other h refl
  opening_most (write key u n buffer) h = other h refl

  pub openings_counted : OpeningsCounted image
  openings_counted =
      record {
        opening_most = λ c h r e. rw (ensured_values image c r e) (opening_most c h);
        refused_reaches = λ p slot key_length key v e. e.1.values_are ∙ (opening_costs built).refused_reaches image p (sym e.1.code_is);
        opened_reaches = λ p slot key_length key v e.
            e.1.values_are ∙ search_opened built image p (sym e.1.code_is) ∙ ap (trials_cost (facts_of built image) 1) (sym e.1.slot_is);
      }
