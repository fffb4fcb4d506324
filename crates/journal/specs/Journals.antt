-- What a journal holds.
use Rattle.tray.specs.Contents.{contents}
use Rattle.book.specs.Books.{Kept}
use Rattle.journal.specs.Records.{list_of}
use Rattle.journal.specs.declared.journal.Journal.{Journal}

abbrev pub journal_kept : Journal → Kept
journal_kept j = record { keys = j.keys; depth = j.depth; lists = list_of (contents j.records) }
