use Rattle.std.proofs.Common.{◌≡◌, length, map, take}
use Rattle.mufom_explain.specs.declared.mention.MentionKind.TheVariants.{Reference}
use Rattle.mufom_explain.specs.Flat.{wanted_names}
use Rattle.mufom_explain.specs.Mentions.{refers_among, mention}
use Rattle.mufom_explain.specs.Noting.{IsFresh, Told, told_with}
use Rattle.mufom_explain.proofs.finding.note_references.Given as goal

-- the mention was added for the names of the references so far
abbrev pub invariant-loop-reference : goal.invariant-loop-reference
invariant-loop-reference l =
    (length l.lists.items ≡ length (wanted_names l.wanted))
    × ((told : Told) → l.fn.lists.items ≡ map told (wanted_names l.wanted) → IsFresh (mention l.position Reference) told
    → l.lists.items ≡ map (told_with told (refers_among (take l.reference-index l.references)) (mention l.position Reference)) (wanted_names l.wanted))
