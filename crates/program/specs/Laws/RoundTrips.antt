-- Demand 2 of every build that answers: its network is written, and read again it is the same. The premises are what the
-- contracts of `build` and `write` ensure of their answers and buffers.
use Rattle.std.specs.Prelude.{◌≡◌, refl, ◌⊎◌, List, ℕ, ◌+◌, ◌*◌, ◌≤◌, length, Result, Ok}
use Rattle.std.proofs.Common.{sym, ap, subst, ◌∙◌, inl, inr, arith}
use Rattle.std.proofs.Math.Dec.{T}
use Rattle.definitions.specs.declared.Counts.{Counts}
use Rattle.definitions.specs.declared.Header.{Header}
use Rattle.definitions.specs.Building.{Space, build, network_in, counts_in, buffers_left}
use Rattle.definitions.specs.Growing.{finished, stopped, grown_in}
use Rattle.definitions.specs.Connecting.{Built}
use Rattle.definitions.specs.Faults.{Outcome, answered, refused}
use Rattle.definitions.specs.NetworkText.{network_known, network_text, write_network, Leaves}
use Rattle.definitions.specs.Said.{result_of}
use Rattle.definitions.specs.declared.Refusal.{Refusal}
use Rattle.std.specs.Result.{is_ok}
use Rattle.definitions.specs.Tables.{Tables, tables_book}
use Rattle.definitions.proofs.Laws.Networks.RoundTrips.{written-read-same, text-length, known_written}
use Rattle.network.specs.declared.Totals.{Totals}
use Rattle.network.specs.declared.Build.{Build}
use Rattle.network.specs.declared.Build.TheVariants as builds
use Rattle.network.specs.Answers.{totals_of, build_of}
use Rattle.program.specs.Laws.BuiltNetworks.{built-known, built-arcs}

-- a build that answered, finished or stopped: its counts, and the words that it left
module _ (header : Header) (tables : Tables) (space : Space) (limit : ℕ) (built : Built)
    (answer : build header tables space limit ≡ answered built)
  where
    abbrev counts_built : Counts
    counts_built = counts_in header.states (network_in built)

    abbrev words_built : List ℕ
    words_built = (buffers_left (tables_book header tables) space (build header tables space limit)).arcs

    -- it is written, where its text has room
    pub built-written : (size : ℕ) → 32 + 32 * counts_built.arcs ≤ size
        → write_network counts_built words_built size ≡ answered (network_text counts_built (network_in built).arcs)
    built-written size room =
        known_written counts_built words_built size (built-known header tables space limit built answer) room
        ∙ rw (built-arcs header tables space limit built answer)

    -- and its text read again is the same network
    pub built-read : Leaves (length words_built) (network_text counts_built (network_in built).arcs) counts_built
        words_built
    built-read =
        written-read-same counts_built words_built (32 + 32 * counts_built.arcs) _
        (built-written (32 + 32 * counts_built.arcs) (omega arith))

-- where a build answers totals, it answered a network with these counts
totals-built : (states : ℕ) (o : Outcome Built) (totals : Totals)
    → (result_of (build_of states) o ≡ Ok (builds.Finished totals))
    ⊎ (result_of (build_of states) o ≡ Ok (builds.Stopped totals))
    → (built : Built) × (o ≡ answered built) × (counts_in states (network_in built) ≡ totals.counts)
unfolding result_of totals_of grown_in
totals-built states (answered (finished turns net)) totals (inl e) = (finished turns net, refl, cc)
totals-built states (answered (finished turns net)) totals (inr e) =
    let z : ◌≡◌ {A = ℕ} 0 1 = cc in absurd (omega arith)
totals-built states (answered (stopped turns net)) totals (inl e) =
    let z : ◌≡◌ {A = ℕ} 0 1 = cc in absurd (omega arith)
totals-built states (answered (stopped turns net)) totals (inr e) = (stopped turns net, refl, cc)
totals-built states (refused r) totals (inl e) = absurd (subst T (sym (ap is_ok e)) tt)
totals-built states (refused r) totals (inr e) = absurd (subst T (sym (ap is_ok e)) tt)

-- `build` answered finished or stopped, and left these arcs; `write` was lent the counts that it answered, these
-- arcs, and a buffer with room for the text
module _ (header : Header) (tables : Tables) (space : Space) (limit : ℕ) (answer : Result Build Refusal)
    (arcs : List ℕ)
    (build-says : answer ≡ result_of (build_of header.states) (build header tables space limit))
    (build-leaves : arcs
    ≡ (buffers_left (tables_book header tables) space (build header tables space limit)).arcs)
    (totals : Totals) (came : (answer ≡ Ok (builds.Finished totals)) ⊎ (answer ≡ Ok (builds.Stopped totals)))
    (text : List ℕ) (wrote : Result ℕ Refusal) (room : 32 + 32 * totals.counts.arcs ≤ length text)
    (write-says : wrote ≡ result_of length (write_network totals.counts arcs (length text)))
  where
    -- then `write` answers a text, never 18; and by `write-then-read` it is read again as the same network
    pub build-then-write : wrote ≡ Ok (32 + 32 * totals.counts.arcs)
    unfolding result_of
    build-then-write =
        let came_from = rw build-says at came in
        let (built, made, same) =
        totals-built header.states (build header tables space limit) totals came_from in
        let known : T (network_known totals.counts arcs) =
        rw (← same, build-leaves) (built-known header tables space limit built made) in
        write-says
        ∙ rw (known_written totals.counts arcs (length text) known room)
        (ap Ok (text-length totals.counts arcs known))
