use Rattle.std.proofs.Common.{◌≡◌, length, map, take}
use Rattle.mufom_explain.specs.declared.mention.MentionKind.TheVariants.{Public}
use Rattle.mufom_explain.specs.Flat.{wanted_names}
use Rattle.mufom_explain.specs.Mentions.{defines_among, mention}
use Rattle.mufom_explain.specs.Noting.{IsFresh, Told, told_with}
use Rattle.mufom_explain.proofs.finding.note_publics.Given as goal

-- the mention was added for the names of the publics so far
abbrev pub invariant-loop-public : goal.invariant-loop-public
invariant-loop-public l =
    (length l.lists.items ≡ length (wanted_names l.wanted))
    × ((told : Told) → l.fn.lists.items ≡ map told (wanted_names l.wanted) → IsFresh (mention l.position Public) told
    → l.lists.items ≡ map (told_with told (defines_among (take l.public-index l.publics)) (mention l.position Public)) (wanted_names l.wanted))
