-- What a comparison of numbers finds, as the test of the definitions says it.
use borrow.Author.Tests.{le-leb, lt-leb}

pub ruleset tests = (le-leb, lt-leb)
