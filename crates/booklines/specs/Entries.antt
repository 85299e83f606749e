-- What the code takes a line to say, as a line of document 01; and the lengths of the lent tables.
use Rattle.definitions.specs.BookLines.{BookLine, Member}
use Rattle.definitions.specs.BookReading.{Lent}
use Rattle.booklines.specs.declared.Entry.{Entry}
use Rattle.booklines.specs.declared.Entry.TheVariants.{H, Q, N, L, B, R}
use Rattle.booklines.specs.declared.Lengths.{Lengths}
use Rattle.booklines.specs.declared.Member as declared
use Rattle.definitions.specs.BookLines as lines

-- a member as the code says it
abbrev pub member_of : declared.Member → Member
member_of member = record { class = member.class; phone = member.phone }

unfoldable pub entry_line : Entry → BookLine
entry_line (H header) =
    lines.H header.half header.states header.phones header.classes header.nodes
entry_line (Q member) = lines.Q member.class member.phone
entry_line (N node class position yes_node no_node) = lines.N node class position yes_node no_node
entry_line (L node model) = lines.L node model
entry_line (B boundary plain) = lines.B boundary plain
entry_line (R phone state root) = lines.R phone state root

abbrev pub lent_of : Lengths → Lent
lent_of lengths =
    record {
      nodes = lengths.nodes;
      classes = lengths.classes;
      roots = lengths.roots;
      plains = lengths.plains;
    }
