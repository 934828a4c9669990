-- CONTRACTS. What a value of the code's types means to the definitions. Assumes nothing.
use Rattle.arc_numbers.specs.Arc as Spec
use Rattle.arc_numbers.specs.declared.Arc.{Arc}

abbrev pub arc_is : Arc → Spec.Arc
arc_is c = record { cu = c.cu; cv = c.cv; rs = c.rs; re = c.re; from = c.from; sweep = c.sweep; tol = c.tol }
