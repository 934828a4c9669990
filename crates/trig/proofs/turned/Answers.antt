-- `trig::turned`: the answers to its goals. Assumes nothing.
use Rattle.trig.proofs.turned.Goals as goal

pub returns-then-q : goal.returns-then-q
returns-then-q c = let a = c.if-q.true in (rw a, rw a)

pub returns-then-q-2 : goal.returns-then-q-2
returns-then-q-2 c = let a = c.if-q.false in let b = c.if-q-2.true in (rw (a, b), rw (a, b))

pub returns-then-q-3 : goal.returns-then-q-3
returns-then-q-3 c = let a = c.if-q.false in let b = c.if-q-2.false in let d = c.if-q-3.true in (rw (a, b, d), rw (a, b, d))

pub returns-else-q-3 : goal.returns-else-q-3
returns-else-q-3 c = let a = c.if-q.false in let b = c.if-q-2.false in let d = c.if-q-3.false in (rw (a, b, d), rw (a, b, d))
