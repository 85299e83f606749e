-- The book whose trees are in force.
use Rattle.definitions.specs.Tables.{Book}
use Rattle.tables.specs.declared.trees.Trees.{Trees}
use Rattle.tables.specs.Usable.{book_with}

abbrev pub trees_book : Trees → Book
trees_book t = book_with t.header t.nodes.now t.classes.now t.roots.now
