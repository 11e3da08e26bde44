-- What the proof of `days_in` uses.
mod MonthsLaws
