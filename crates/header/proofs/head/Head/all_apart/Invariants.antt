use Rattle.std.proofs.Common.{◌≡◌, drop}
use Rattle.rules.specs.Header.{all_apart}
use Rattle.header.specs.Records.{facts_in}
use Rattle.header.proofs.head.Head.all_apart.Given as goal

abbrev pub invariant-loop-i : goal.invariant-loop-i
invariant-loop-i l = all_apart l.key_bytes (drop l.i (facts_in l.self.image.now).slot_facts) ≡ all_apart l.key_bytes (facts_in l.self.image.now).slot_facts
