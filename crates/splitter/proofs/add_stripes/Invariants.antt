-- `splitter::add_stripes`: the running block after m stripes, and the stripes behind them.
use Rattle.std.proofs.Common.{◌≡◌, ◌-◌, ◌*◌, length, drop}
use Rattle.hash.specs.Hash.{digest_of}
use Rattle.suite.specs.Split.{running}
use Rattle.splitter.specs.Diffuse.{diffuse}
use Rattle.splitter.proofs.add_stripes.Given as goal

abbrev pub invariant-loop-m : goal.invariant-loop-m
invariant-loop-m l =
    let H = diffuse (digest_of l.fn.hash) in
    let L = length l.fn.d in
    (length l.d ≡ L) × (running H L l.d (l.count - l.m) (drop (l.m * L) l.stripes) ≡ running H L l.fn.d l.count l.stripes)
