use Rattle.std.proofs.Common.{◌≡◌, drop}
use Rattle.rules.specs.Checks.{every}
use Rattle.rules.specs.Header.{inside}
use Rattle.header.specs.Records.{facts_in}
use Rattle.header.proofs.head.Head.areas_inside.Given as goal

abbrev pub invariant-loop-i : goal.invariant-loop-i
invariant-loop-i l =
    let f = facts_in l.self.image.now in
    every (inside l.key_bytes f.payload_at) (drop l.i f.slot_facts) ≡ every (inside l.key_bytes f.payload_at) f.slot_facts
