-- The four cases of what is added.
use Rattle.std.proofs.Common.{refl, arith}
use Rattle.cipher.proofs.WordLaws.{column-be32_of}
use Rattle.cipher.proofs.ScheduleLaws.{temp-first, temp_short, temp_fourth, temp_long}
use Rattle.cipher.proofs.temp_word.Goals as goal

pub returns-then-p-eq0 : goal.returns-then-p-eq0
returns-then-p-eq0 c =
    let a = c.args in
    temp-first a.nk a.i a.t c.rot_word.result c.sub_word.result c.from_be_bytes.result c.if-p-eq0.true c.rot_word.ensures c.sub_word.ensures
    (column-be32_of c.from_be_bytes.result a.constant 0 0 0 (omega arith) (omega arith) (omega arith) (omega arith) (omega (arith, c.from_be_bytes.ensures)) c.requires.1 refl refl refl)

pub returns-then-nk-le6 : goal.returns-then-nk-le6
returns-then-nk-le6 c = let a = c.args in temp_short a.nk a.i a.t c.if-p-eq0.false c.if-nk-le6.true

pub returns-then-p-eq4 : goal.returns-then-p-eq4
returns-then-p-eq4 c =
    let a = c.args in
    temp_fourth a.nk a.i a.t c.sub_word-then-p-eq4.result c.if-p-eq0.false (omega arith) c.if-p-eq4.true c.sub_word-then-p-eq4.ensures

pub returns : goal.returns
returns c = let a = c.args in temp_long a.nk a.i a.t c.if-p-eq0.false (omega arith) c.if-p-eq4.false
