-- Wish 5 of 02 for the built table: no hypothesis is left but accepted calls and typed arguments.
use mathlib.Core.Path.{◌≡◌}
use mathlib.Core.List.{List}
use mathlib.Core.Bool.{true}
use Prim.Native.Nat.{ℕ}
use Rattle.octets.specs.Octets.{Bytes}
use Rattle.rules.specs.Facts.{facts_of}
use Rattle.rules.specs.Calls.{Call}
use Rattle.rules.specs.Step.{step}
use Rattle.rules.specs.Lists.{list_of}
use Rattle.rules.specs.Format.{FormatInput, format}
use Rattle.profiles.specs.Suites.{built}
use Rattle.profiles.proofs.Lawful.{built-lawful}
use Rattle.ledger.specs.Demand3.{FormatTyped, Typed, AllTyped, last_image, last_ledger}
use Rattle.cuts.specs.Cuts.{carried_out}
use Rattle.cuts.specs.CutSafe.{gives_list, CutSafe}
use Rattle.cuts.proofs.FullLaws.{list-carried-out}
use Rattle.cuts.proofs.General.{cut-safe}

pub cut-safe-built : (a : FormatInput) → FormatTyped a → (image : List ℕ) → (format built a image).code ≡ 0
    → (cs : List Call) → AllTyped cs → (c : Call) → gives_list c ≡ true → Typed c → (step built (last_image built a image cs) c).said.code ≡ 0
    → CutSafe built (last_image built a image cs) (last_ledger built a image cs) c
cut-safe-built = cut-safe built built-lawful

pub list-carried-out-built : (image : List ℕ) → Bytes image → (c : Call) → gives_list c ≡ true → Typed c → (step built image c).said.code ≡ 0
    → carried_out (list_of (facts_of built image) c image) image ≡ (step built image c).image
list-carried-out-built = list-carried-out built built-lawful
