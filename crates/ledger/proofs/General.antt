-- Demand 3 for any lawful table of profiles: every list of calls after an accepted format follows the ledger.
use mathlib.Core.Path.{◌≡◌, refl, sym, ap, ◌∙◌}
use mathlib.Core.List.{List, [], ◌∷◌}
use mathlib.Core.Bool.{Bool, true, false}
use Prim.Native.Nat.{ℕ}
use Rattle.octets.specs.Octets.{padded}
use Rattle.rules.specs.Profiles.{Table}
use Rattle.rules.specs.Lawful.{LawfulTable}
use Rattle.rules.specs.Facts.{Facts}
use Rattle.rules.specs.Calls.{Call, add, change, revoke, open_slot, open_any, read, write, Answer}
use Rattle.rules.specs.Step.{step, run}
use Rattle.rules.specs.Format.{FormatInput, key_bytes_of, format}
use Rattle.ledger.specs.Ledger.{Ledger, ledger_image, ledger_facts, set_slot, set_sectors, ledger_after, settle_entry, enter, enter_all, start_ledger}
use Rattle.ledger.specs.Demand3.{FormatTyped, Typed, AllTyped, add_accepted, answers_given, last_image, ledger_answers, last_ledger, Demand3}
use Rattle.ledger.proofs.LedgerLaws.{GoodLedger}
use Rattle.ledger.proofs.EnterLaws.{step_follows, run-follows}
use Rattle.ledger.proofs.StartLaws.{start-good, format_starts}
use Rattle.ledger.proofs.AnswerLaws.{live-answer, written-answer}
use Rattle.ledger.proofs.LiveLaws.{add_stays_live}

-- ---- format's arguments stay

after-input : (f : Facts) (c : Call) (l : Ledger) → (ledger_after f c l).input ≡ l.input
unfolding ledger_after set_slot set_sectors
after-input f (add k key x list) l = refl
after-input f (change k passphrase to x filler list) l = refl
after-input f (revoke k filler list) l = refl
after-input f (open_slot k passphrase) l = refl
after-input f (open_any passphrase) l = refl
after-input f (read key u n buffer) l = refl
after-input f (write key u n buffer) l = refl

settled-input : (f : Facts) (c : Call) (l : Ledger) (r : ℕ) (b : Bool) → (settle_entry f c l r b).ledger.input ≡ l.input
unfolding settle_entry
settled-input f c l r true = after-input f c l
settled-input f c l r false = refl

pub input_stays : (table : Table) (l : Ledger) (cs : List Call) → (enter_all table l cs).ledger.input ≡ l.input
unfolding enter_all enter
input_stays table l [] = refl
input_stays table l (c ∷ cs) = input_stays table (enter table l c).ledger cs ∙ settled-input (ledger_facts table l) c l _ _

-- ---- the theorem

module _ (table : Table) (lawful : LawfulTable table) where
  -- the end of a list, on the image and on the ledger
  module _ (a : FormatInput) (typed : FormatTyped a) (image : List ℕ) (yes' : (format table a image).code ≡ 0) (cs : List Call) (t : AllTyped cs) where
    ends : run table (format table a image).image cs ≡ record { answers = ledger_answers table a image cs; image = ledger_image table (last_ledger table a image cs) }
    ends =
        ap (λ x. run table x cs) (format_starts table lawful a typed image yes')
        ∙ (run-follows table (start_ledger table a image) cs (start-good table lawful a typed image yes') t).0

    image-ends : last_image table a image cs ≡ ledger_image table (last_ledger table a image cs)
    image-ends = ap (λ r. r.image) ends

    answers-end : answers_given table a image cs ≡ ledger_answers table a image cs
    answers-end = ap (λ r. r.answers) ends

    good : GoodLedger table (last_ledger table a image cs)
    good = (run-follows table (start_ledger table a image) cs (start-good table lawful a typed image yes') t).1

    input-is : (last_ledger table a image cs).input ≡ a
    unfolding start_ledger
    input-is = input_stays table (start_ledger table a image) cs

    -- a further call answers as the ledger does
    says : (c : Call) → Typed c → (step table (last_image table a image cs) c).said ≡ (enter table (last_ledger table a image cs) c).said
    says c h = ap (λ x. (step table x c).said) image-ends ∙ ap (λ r. r.said) (step_follows table (last_ledger table a image cs) good c h).0

  pub demand_3 : (a : FormatInput) → FormatTyped a → (image : List ℕ) → (format table a image).code ≡ 0 → (cs : List Call) → AllTyped cs → Demand3 table a image cs
  demand_3 a typed image yes' cs t =
      let end = last_ledger table a image cs in
      let g = good a typed image yes' cs t in
      record {
        image_is = image-ends a typed image yes' cs t;
        answers_are = answers-end a typed image yes' cs t;
        live_opens = λ k h i key x e.
            says a typed image yes' cs t (open_slot k x.passphrase) tt ∙ live-answer table end g k h i key x e
            ∙ ap (λ (b : FormatInput). openedWith k (key_bytes_of table b) key) (input-is a typed image yes' cs t);
        written_reads = λ u key plain e buffer b.
            says a typed image yes' cs t (read key u 1 buffer) tt ∙ written-answer table end g u key plain e buffer b;
        one_image = λ a' typed' image' yes'' cs' t' e.
            image-ends a typed image yes' cs t ∙ ap (ledger_image table) e ∙ sym (image-ends a' typed' image' yes'' cs' t');
        some_live = λ h.
            add_stays_live table (start_ledger table a image) cs (start-good table lawful a typed image yes') t
            (ap (add_accepted cs) (sym (answers-end a typed image yes' cs t)) ∙ h);
      }
    where
      openedWith : ℕ → ℕ → List ℕ → Answer
      openedWith k L key = record { code = 0; slot = k; key_length = L; key = padded 64 key; bytes = [] }
