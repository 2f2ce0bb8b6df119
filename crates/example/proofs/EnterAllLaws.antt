-- A list of calls on a ledger, call by call.
use mathlib.Core.Path.{◌≡◌, refl, ap, ◌∙◌, subst}
use mathlib.Core.Logic.{◌≢◌}
use mathlib.Core.List.{List, [], ◌∷◌}
use mathlib.Core.Bool.{Bool, true, false}
use Prim.Native.Nat.{ℕ}
use lib.Dec.{eqb}
use borrow.Author.Tests.{ne_eqb}
use Rattle.rules.specs.Checks.{first}
use Rattle.rules.specs.Profiles.{Table}
use Rattle.rules.specs.Calls.{Call, checks, Answer, answer, refused}
use Rattle.ledger.specs.Ledger.{Ledger, Entered, EnteredAll, ledger_facts, ledger_after, settle_entry, enter, enter_all}
use Rattle.ledger.specs.Demand3.{Typed}
use Rattle.ledger.proofs.LedgerLaws.{GoodLedger}
use Rattle.ledger.proofs.EnterLaws.{step_follows}

-- the call c on the ledger l gives the answer s and leaves m
abbrev pub Enters : Table → Ledger → Call → Answer → Ledger → Type 0
Enters table l c s m = enter table l c ≡ record { said = s; ledger = m }

-- the end of a list
pub enter_all-nil : (table : Table) (l : Ledger) → enter_all table l [] ≡ record { answers = []; ledger = l }
unfolding enter_all
enter_all-nil table l = refl

module _ (table : Table) (l : Ledger) (c : Call) where
  -- a call that alters no ledger, whatever it answers
  pub enter-kept : (s : Answer) → ledger_after (ledger_facts table l) c l ≡ l → (enter table l c).said ≡ s → Enters table l c s l
  unfolding enter
  enter-kept s e h =
      go (first (checks (ledger_facts table l) c)) (eqb (first (checks (ledger_facts table l) c)) 0)
      ∙ ap {B = Entered} (λ r. record { said = r; ledger = l }) h
    where
      go : (r : ℕ) (b : Bool) → settle_entry (ledger_facts table l) c l r b ≡ record { said = (settle_entry (ledger_facts table l) c l r b).said; ledger = l }
      go r true = unfold settle_entry in λ i. record { said = answer (ledger_facts table l) c; ledger = e i }
      go r false = unfold settle_entry in refl

  -- a refused call
  pub enter-refused : (r : ℕ) → r ≢ 0 → first (checks (ledger_facts table l) c) ≡ r → Enters table l c (refused r c) l
  unfolding enter settle_entry
  enter-refused r h e = rw (e, ne_eqb r 0 h)

  module _ (s : Answer) (m : Ledger) (e : Enters table l c s m) where
    -- the ledger that it leaves is good
    pub enter-good : GoodLedger table l → Typed c → GoodLedger table m
    enter-good g t = subst (GoodLedger table) (ap (λ a. a.ledger) e) (step_follows table l g c t).1

    -- the rest of a list after it
    pub enter_all-cons : (cs : List Call) (rs : List Answer) (n : Ledger) → enter_all table m cs ≡ record { answers = rs; ledger = n }
        → enter_all table l (c ∷ cs) ≡ record { answers = s ∷ rs; ledger = n }
    unfolding enter_all
    enter_all-cons cs rs n h =
        ap {B = EnteredAll} (λ a. record { answers = a.said ∷ (enter_all table a.ledger cs).answers; ledger = (enter_all table a.ledger cs).ledger }) e
        ∙ ap {B = EnteredAll} (λ t. record { answers = s ∷ t.answers; ledger = t.ledger }) h
