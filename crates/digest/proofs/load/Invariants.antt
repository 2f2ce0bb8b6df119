-- `digest::load`: the first t words are in the array.
use Rattle.std.proofs.Common.{◌≡◌, take}
use Rattle.digest.specs.Chaining.{words}
use Rattle.digest.proofs.load.Given as goal

abbrev pub invariant-loop-t : goal.invariant-loop-t
invariant-loop-t l = take l.t l.x-items ≡ words l.m l.t
