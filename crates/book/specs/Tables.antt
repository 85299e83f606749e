-- The lent tables as the code holds them: their lengths, and that they are still those that were lent.
use Rattle.std.specs.Prelude.{◌≡◌, refl}
use Rattle.std.proofs.Common.{◌∙◌}
use Rattle.definitions.specs.BookReading.{Lent}
use Rattle.tables.specs.Lending.{lengths_of}
use Rattle.book.specs.declared.Tables.{Tables}

abbrev pub lengths_in : Tables → Lent
lengths_in t = lengths_of t.nodes.now t.classes.now t.roots.now t.plains.now

pub record SameLent (t u : Tables) : Type 0 where
  pub nodes : t.nodes.ghost_name ≡ u.nodes.ghost_name
  pub classes : t.classes.ghost_name ≡ u.classes.ghost_name
  pub roots : t.roots.ghost_name ≡ u.roots.ghost_name
  pub plains : t.plains.ghost_name ≡ u.plains.ghost_name

pub same-itself : (t : Tables) → SameLent t t
same-itself t = record { nodes = refl; classes = refl; roots = refl; plains = refl }

pub same-further : {t u v : Tables} → SameLent t u → SameLent u v → SameLent t v
same-further a b = record {
  nodes = a.nodes ∙ b.nodes;
  classes = a.classes ∙ b.classes;
  roots = a.roots ∙ b.roots;
  plains = a.plains ∙ b.plains;
}
