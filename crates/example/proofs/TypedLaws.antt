-- Arguments typed as demand 3 asks, shown by a test that the checker computes.
use mathlib.Core.Path.{◌≡◌}
use mathlib.Core.List.{List, [], ◌∷◌}
use mathlib.Core.Bool.{Bool, true, ◌&&◌}
use Prim.Native.Nat.{ℕ, ◌^◌}
use lib.Dec.{eqb, ltb}
use lib.ListN.{length}
use borrow.Author.Tests.{ltb-true, eqb-true}
use Rattle.octets.specs.Octets.{Bytes}
use Rattle.octets.proofs.BoolLaws.{and_split}
use Rattle.rules.specs.Facts.{SlotInput}
use Rattle.rules.specs.Calls.{Call, add, change, revoke, open_slot, open_any, read, write}
use Rattle.rules.specs.Format.{FormatInput}
use Rattle.ledger.specs.Demand3.{FormatTyped, SlotTyped, Typed, AllTyped}

-- ---- the tests

-- each element is a byte
abbrev are_bytes : List ℕ → Bool
are_bytes [] = true
are_bytes (x ∷ xs) = ltb x 256 && are_bytes xs

-- format's arguments
abbrev is_format_typed : FormatInput → Bool
is_format_typed a = eqb (length a.salt) 32 && ltb a.count (2 ^ 32)

-- those that make a slot live
abbrev is_slot_typed : SlotInput → Bool
is_slot_typed x = eqb (length x.salt) 32 && (ltb x.count (2 ^ 32) && are_bytes x.random)

-- a call's
abbrev is_call_typed : Call → Bool
is_call_typed (add k key x list) = are_bytes key && is_slot_typed x
is_call_typed (change k passphrase to x filler list) = is_slot_typed x
is_call_typed (revoke k filler list) = true
is_call_typed (open_slot k passphrase) = true
is_call_typed (open_any passphrase) = true
is_call_typed (read key u n buffer) = true
is_call_typed (write key u n buffer) = are_bytes key && are_bytes buffer

-- each call's
abbrev are_calls_typed : List Call → Bool
are_calls_typed [] = true
are_calls_typed (c ∷ cs) = is_call_typed c && are_calls_typed cs

-- ---- what they show

are_bytes_lem : (x : List ℕ) → are_bytes x ≡ true → Bytes x
are_bytes_lem [] h = tt
are_bytes_lem (a ∷ x) h =
    let q = and_split (ltb a 256) (are_bytes x) h in
    (ltb-true a 256 q.0, are_bytes_lem x q.1)

pub format-typed : (a : FormatInput) → is_format_typed a ≡ true → FormatTyped a
format-typed a h =
    let q = and_split (eqb (length a.salt) 32) (ltb a.count (2 ^ 32)) h in
    record { salt_is = eqb-true (length a.salt) 32 q.0; count_most = ltb-true a.count (2 ^ 32) q.1 }

slot-typed : (x : SlotInput) → is_slot_typed x ≡ true → SlotTyped x
slot-typed x h =
    let q = and_split (eqb (length x.salt) 32) (ltb x.count (2 ^ 32) && are_bytes x.random) h in
    let r = and_split (ltb x.count (2 ^ 32)) (are_bytes x.random) q.1 in
    record {
      salt_is = eqb-true (length x.salt) 32 q.0;
      count_most = ltb-true x.count (2 ^ 32) r.0;
      random_bytes = are_bytes_lem x.random r.1;
    }

call-typed : (c : Call) → is_call_typed c ≡ true → Typed c
call-typed (add k key x list) h =
    let q = and_split (are_bytes key) (is_slot_typed x) h in
    (are_bytes_lem key q.0, slot-typed x q.1)
call-typed (change k passphrase to x filler list) h = slot-typed x h
call-typed (revoke k filler list) h = tt
call-typed (open_slot k passphrase) h = tt
call-typed (open_any passphrase) h = tt
call-typed (read key u n buffer) h = tt
call-typed (write key u n buffer) h =
    let q = and_split (are_bytes key) (are_bytes buffer) h in
    (are_bytes_lem key q.0, are_bytes_lem buffer q.1)

pub calls_typed : (cs : List Call) → are_calls_typed cs ≡ true → AllTyped cs
calls_typed [] h = tt
calls_typed (c ∷ cs) h =
    let q = and_split (is_call_typed c) (are_calls_typed cs) h in
    (call-typed c q.0, calls_typed cs q.1)
