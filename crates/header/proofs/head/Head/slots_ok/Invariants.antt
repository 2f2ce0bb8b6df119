use Rattle.std.proofs.Common.{◌≡◌, drop}
use Rattle.rules.specs.Checks.{every}
use Rattle.rules.specs.Header.{slot_ok}
use Rattle.header.specs.Records.{facts_in}
use Rattle.header.proofs.head.Head.slots_ok.Given as goal

abbrev pub invariant-loop-i : goal.invariant-loop-i
invariant-loop-i l = every slot_ok (drop l.i (facts_in l.self.image.now).slot_facts) ≡ every slot_ok (facts_in l.self.image.now).slot_facts
