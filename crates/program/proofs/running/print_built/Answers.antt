-- `running::print_built` meets its contract: each answer of the build can be printed, and is what its book
-- prints.
use mathlib.Core.Path.{◌≡◌, refl, sym, ◌∙◌}
use mathlib.Core.List.{List}
use Prim.Native.Nat.{ℕ}
use Rattle.std.specs.Prelude.{Result}
use Rattle.definitions.specs.declared.Refusal.{Refusal}
use Rattle.definitions.specs.Matrices.{matrix_size}
use Rattle.network.specs.declared.Build.{Build}
use Rattle.program.specs.Printing.{Prints, book_text}
use Rattle.program.specs.Laws.Printing.{prints-same}
use Rattle.program.specs.Laws.Books.{Printable, text_told, answer-printable, answer-text}
use borrow.Author.Rules.{rules}
use Rattle.program.proofs.running.print_built.Goals as goal
use Rattle.program.proofs.running.print_built.Goals.{After-build_book-built}

abbrev words : goal.After-build_book-built → List ℕ
words c = c.build_book-built.new.arcs

-- the answer can be printed,
printable : (c : goal.After-build_book-built) (answer : Result Build Refusal) → c.build_book-built.result ≡ answer
    → Printable answer (words c)
unfolding matrix_size
printable c answer f =
    answer-printable _ _ _ c.args.text.now answer _
    (sym f ∙ c.build_book-built.ensures.answer) c.build_book-built.ensures.leaves c.requires.0

-- and what is printed of it is what is printed of the book
prints : (c : goal.After-build_book-built) (answer : Result Build Refusal) (output : List ℕ) (count : ℕ)
    → c.build_book-built.result ≡ answer → Prints (text_told answer (words c)) output count
    → Prints (book_text c.args.text.now) output count
unfolding matrix_size
prints c answer output count f =
    prints-same (text_told answer (words c)) (book_text c.args.text.now) output count
    (answer-text _ _ _ c.args.text.now answer _
    (sym f ∙ c.build_book-built.ensures.answer) c.build_book-built.ensures.leaves refl refl refl)

pub print_network-requires : goal.print_network-requires
print_network-requires c =
    let known = printable (goal.at.print_network-requires c).After-build_book-built _ c.in-Ok.is in
    (rw c.counts_of.ensures known, search rules, c.requires.1)

pub returns-in-Ok : goal.returns-in-Ok
returns-in-Ok c =
    prints (goal.at.returns-in-Ok c).After-build_book-built _ _ _ c.in-Ok.is
    (rw c.counts_of.ensures at c.print_network.ensures)

pub print_refusal-requires : goal.print_refusal-requires
print_refusal-requires c =
    (printable (goal.at.print_refusal-requires c).After-build_book-built _ c.in-Err.is, c.requires.1)

pub returns-in-Err : goal.returns-in-Err
returns-in-Err c =
    prints (goal.at.returns-in-Err c).After-build_book-built _ _ _ c.in-Err.is c.print_refusal.ensures
