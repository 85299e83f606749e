-- One text states one book, so books whose plain forms are the same text have the same trees and plain phones. And the
-- plain form is written from these alone, so books that have the same have the same plain form.
use Rattle.std.specs.Prelude.{◌≡◌, refl, List, Bool, ◌&&◌, ◌*◌, T, leb}
use Rattle.std.proofs.Common.{sym, ap, ◌∙◌, arith, le→leb}
use Rattle.definitions.specs.declared.Header.{Header}
use Rattle.definitions.specs.Faults.{Outcome, answered}
use Rattle.definitions.specs.Forms.{most_nodes}
use Rattle.definitions.specs.Ranges.{InRange}
use Rattle.definitions.specs.BookLines.{BookLine, root_count}
use Rattle.definitions.specs.BookReading.{Lent, node_size, wide_enough, read_book}
use Rattle.definitions.specs.Tables.{Contents, contents_of}
use Rattle.definitions.specs.BookText.{lines_of_book, text_of_book}
use Rattle.definitions.specs.PlainForm.{trees_of, SameBook, numbered, plain_contents, plain_text}
use Rattle.definitions.proofs.Laws.Lists.Tests.{T_and, T-three}
use Rattle.definitions.proofs.Laws.Books.Books.{roots_few}
use Rattle.definitions.proofs.Laws.Books.KnownBooks.{Stated}
use Rattle.definitions.proofs.Laws.Books.BookTexts.{contents-again, book-read}
use Rattle.definitions.proofs.Spelling.PlainTrees.{plain-trees}
use Rattle.definitions.proofs.Spelling.PlainStated.{stated-few, plain-stated}

-- tables that are wide enough for every header
abbrev most : Lent
most = record { nodes = node_size * most_nodes; classes = 255; roots = 192; plains = 64 }

most-wide : (header : Header) → InRange header → T (wide_enough most header)
unfolding wide_enough
most-wide header r =
    let nodes : Bool = leb (node_size * header.nodes) most.nodes in
    let classes : Bool = leb header.classes most.classes in
    (T-three (nodes && classes) (leb (root_count header) most.roots) (leb header.phones most.plains)).1 (
      (T_and nodes classes).1 (
        le→leb (node_size * header.nodes) most.nodes (omega (arith, r.nodes_range.high)),
        le→leb _ _ r.classes_range.high,
      ),
      le→leb _ _ (roots_few header r),
      le→leb _ _ r.phones_range.high,
    )

-- what was written is read, so one text states one book
text-states : (g h : Header) (a b : Contents) → Stated g a → Stated h b → text_of_book g a ≡ text_of_book h b → a ≡ b
text-states g h a b s t e =
    let read : ◌≡◌ {A = Outcome (List BookLine)} (answered (lines_of_book g a)) (answered (lines_of_book h b)) =
    sym (book-read most g a s (most-wide g s.in-range)) ∙ ap (read_book most) e
    ∙ book-read most h b t (most-wide h t.in-range) in
    let lines : lines_of_book g a ≡ lines_of_book h b = cc in
    sym (contents-again g a s) ∙ ap contents_of lines ∙ contents-again h b t

pub same-text-same-book : (g h : Header) (a b : Contents) → Stated g a → Stated h b → plain_text a ≡ plain_text b
    → SameBook a b
unfolding plain_text plain_contents numbered
same-text-same-book g h a b s t e =
    let same : plain_contents a ≡ plain_contents b =
    text-states _ _ (plain_contents a) (plain_contents b) (plain-stated g a s) (plain-stated h b t) e in
    record {
      half = ap (λ (x : Contents). x.half) same;
      states = ap (λ (x : Contents). x.states) same;
      phones = ap (λ (x : Contents). x.phones) same;
      trees = sym (plain-trees a (stated-few g a s)) ∙ ap trees_of same ∙ plain-trees b (stated-few h b t);
      plains = ap (λ (x : Contents). x.plains) same;
    }

pub same-book-same-text : (a b : Contents) → SameBook a b → plain_text a ≡ plain_text b
unfolding plain_text plain_contents
same-book-same-text a b same = rw (same.trees, same.half, same.states, same.phones, same.plains)

-- a plain book is the same book
pub plain-same : (header : Header) (contents : Contents) → Stated header contents
    → SameBook (plain_contents contents) contents
unfolding plain_contents numbered
plain-same header contents s = record {
  half = refl;
  states = refl;
  phones = refl;
  trees = plain-trees contents (stated-few header contents s);
  plains = refl;
}
