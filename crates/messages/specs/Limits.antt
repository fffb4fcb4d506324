-- The limits of a message.
use Rattle.std.specs.Prelude.{ℕ}

-- the most lines of a message, and the most drafts of a transaction
abbrev pub line_limit : ℕ
line_limit = 8

-- transactions are numbered below this
abbrev pub transaction_limit : ℕ
transaction_limit = 1024
