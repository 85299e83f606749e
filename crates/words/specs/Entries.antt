-- What the code takes a line to say, as a line of a word book.
use Rattle.definitions.specs.WordBooks.{WordLine}
use Rattle.words.specs.declared.Entry.{Entry}

abbrev pub entry_line : Entry → WordLine
entry_line e = record { word = e.word; place = e.place; phone = e.phone }

abbrev pub entry_of : WordLine → Entry
entry_of line = record { word = line.word; place = line.place; phone = line.phone }
