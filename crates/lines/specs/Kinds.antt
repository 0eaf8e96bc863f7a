-- The kinds of a line, each with a letter of its own. Assumes nothing.
pub data Kind : Type 0 where
  Opening : Kind
  Entry : Kind
  Cut : Kind
  Withdrawal : Kind
  Uncrossing : Kind
