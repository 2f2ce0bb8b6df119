-- `screens::all_entries` meets its contract.
use Rattle.std.proofs.Common.{◌≡◌, ◌∙◌, sym, refl, ap, map, arith}
use lib.ListN.{length-set}
use lib.Seq.{take_all}
use Rattle.rules.specs.Facts.{no_slot}
use Rattle.profiles.specs.Suites.{built}
use Rattle.header.specs.Records.{facts_in}
use Rattle.screens.specs.Screens.{details_of}
use Rattle.screens.specs.Entries.{details_in}
use Rattle.screens.proofs.ScreenLaws.{next-given, shown, shown-at, eight-shown}
use Rattle.screens.proofs.all_entries.Goals as goal

pub loop-i-init : goal.loop-i-init
loop-i-init c = record { eight = refl; first = refl }

pub loop-i-preserved : goal.loop-i-preserved
loop-i-preserved c =
    let l = c.loop-i in
    let f = facts_in c.args.drive.image.now in
    record {
      eight = simp length-set l.invariant.eight;
      first = next-given (shown details_of f) l.i (details_of no_slot) (omega (arith, eight-shown details_of built c.args.drive.image.now)) details_in l.entries _
          (omega arith) l.invariant.first (c.entry_at.ensures ∙ sym (shown-at details_of f l.i));
    }

pub returns : goal.returns
returns c =
    let l = c.loop-i in
    let e : l.i ≡ 8 = omega arith in
    ap (map details_in) (sym (take_all 8 l.entries (omega arith))) ∙ (rw e at l.invariant.first)
    ∙ take_all 8 (shown details_of (facts_in c.args.drive.image.now)) (omega (arith, eight-shown details_of built c.args.drive.image.now))
