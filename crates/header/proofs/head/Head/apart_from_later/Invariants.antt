use Rattle.std.proofs.Common.{◌≡◌, ◌+◌, drop}
use Rattle.rules.specs.Checks.{every}
use Rattle.rules.specs.Facts.{slot_of}
use Rattle.rules.specs.Header.{apart}
use Rattle.header.specs.Records.{facts_in}
use Rattle.header.proofs.head.Head.apart_from_later.Given as goal

abbrev pub invariant-loop-j : goal.invariant-loop-j
invariant-loop-j l =
    let f = facts_in l.self.image.now in
    let t = apart l.key_bytes (slot_of f (l.fn.i + 1)) in
    every t (drop l.j f.slot_facts) ≡ every t (drop (l.fn.i + 1) f.slot_facts)
