-- The words before i are those of the schedule.
use Rattle.std.proofs.Common.{◌≡◌, ℕ, ◌+◌, ◌-◌, ◌*◌, ◌/◌, length, take, ap, ◌∙◌, arith, rules}
use Rattle.aes.specs.Aes.{rcon, schedule, expand}
use Rattle.cipher.proofs.ScheduleLaws.{rcon-first, schedule-start, schedule_more}
use Rattle.cipher.proofs.expand_key.Goals as goal

pub loop-i-init : goal.loop-i-init
loop-i-init c =
    let key = c.args.key.now in
    (schedule-start (length key / 4) key _ c.copy_into.new.d (omega arith) c.copy_into.ensures, rcon-first (length key / 4) (omega arith))

pub next_word-requires : goal.next_word-requires
next_word-requires c = let l = c.loop-i in (omega arith, omega arith, omega (arith, c.loop-i-test.array_long), l.invariant.1)

pub next_constant-constant-requires : goal.next_constant-constant-requires
next_constant-constant-requires c =
    let l = c.loop-i in
    let e : l.i ≡ l.i + 1 - 1 = omega arith in
    (omega arith, omega arith, l.invariant.1 ∙ ap (λ (i : ℕ). rcon (i / (length c.args.key.now / 4) - 1)) e)

pub loop-i-preserved : goal.loop-i-preserved
loop-i-preserved c =
    let l = c.loop-i in
    let key = c.args.key.now in
    let n : length l.w ≡ 240 = c.loop-i-test.array_long in (
      ap (take ((l.i + 1) * 4)) c.copy_into-in-loop-i.ensures
          ∙ schedule_more (length key / 4) l.i key l.w c.be32-x.result (omega arith) (omega arith) (omega arith) (search rules) (c.be32-x.ensures ∙ c.next_word.ensures) l.invariant.0,
      c.next_constant-constant.ensures,
    )

pub returns : goal.returns
unfolding expand
returns c =
    let l = c.loop-i in
    let key = c.args.key.now in
    let e : l.i ≡ (length key / 4 + 7) * 4 = omega arith in
    let f : (length key / 4 + 7) * 16 ≡ l.i * 4 = omega arith in
    ap (λ (k : ℕ). take k l.w) f ∙ l.invariant.0 ∙ ap (λ (k : ℕ). schedule (length key / 4) key (k - length key / 4)) e
