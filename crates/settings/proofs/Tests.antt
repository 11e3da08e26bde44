-- What a comparison of numbers finds, as the test of the definitions says it.
use borrow.Author.Tests.{eq-eqb, ne_eqb, le-leb, lt-leb}

pub ruleset tests = (eq-eqb, ne_eqb, le-leb, lt-leb)
