-- `csv_digits::digits`: the answers to its goals. Assumes nothing.
use Rattle.csv_decimal.specs.Widths.{width_one, width-at, width-last}
use Rattle.csv_digits.proofs.digits.Goals as goal

pub returns-then-n-lt10 : goal.returns-then-n-lt10
returns-then-n-lt10 c = width_one _ c.if-n-lt10.true

pub returns-then-n-lt100 : goal.returns-then-n-lt100
returns-then-n-lt100 c = width-at 0 7 _ c.if-n-lt10.false c.if-n-lt100.true

pub returns-then-n-lt1000 : goal.returns-then-n-lt1000
returns-then-n-lt1000 c = width-at 1 6 _ c.if-n-lt100.false c.if-n-lt1000.true

pub returns-then-n-lt10000 : goal.returns-then-n-lt10000
returns-then-n-lt10000 c = width-at 2 5 _ c.if-n-lt1000.false c.if-n-lt10000.true

pub returns-then-n-lt100000 : goal.returns-then-n-lt100000
returns-then-n-lt100000 c = width-at 3 4 _ c.if-n-lt10000.false c.if-n-lt100000.true

pub returns-then-n-lt1000000 : goal.returns-then-n-lt1000000
returns-then-n-lt1000000 c = width-at 4 3 _ c.if-n-lt100000.false c.if-n-lt1000000.true

pub returns-then-n-lt10000000 : goal.returns-then-n-lt10000000
returns-then-n-lt10000000 c = width-at 5 2 _ c.if-n-lt1000000.false c.if-n-lt10000000.true

pub returns-then-n-lt100000000 : goal.returns-then-n-lt100000000
returns-then-n-lt100000000 c = width-at 6 1 _ c.if-n-lt10000000.false c.if-n-lt100000000.true

pub returns-then-n-lt1000000000 : goal.returns-then-n-lt1000000000
returns-then-n-lt1000000000 c = width-at 7 0 _ c.if-n-lt100000000.false c.if-n-lt1000000000.true

pub returns : goal.returns
returns c = width-last _ c.if-n-lt1000000000.false
