-- The arguments that errors in the arguments are about, on examples.
use Rattle.std.proofs.Common.{◌≡◌, List, [], ◌∷◌, codes, refl}
use Rattle.mufom_words.specs.declared.faulty.FaultyArgument.TheVariants.{Word, Missing, Nothing}
use Rattle.mufom_words.specs.declared.options.Setting.TheVariants as setting
use Rattle.mufom_words.specs.declared.stop.UsageFault.TheVariants as fault
use Rattle.mufom_words.specs.Faulty.{faulty_argument}
use Rattle.mufom_words.specs.Options.{Text}

unknown_option : faulty_argument (codes "dump" ∷ codes "--pln" ∷ codes "p" ∷ codes "a" ∷ []) fault.BadWords ≡ Word 1
unknown_option = refl

missing_option : faulty_argument (codes "locate" ∷ codes "a" ∷ []) fault.BadWords ≡ Missing setting.Out
missing_option = refl

missing_address : faulty_argument (codes "addr" ∷ codes "--plan" ∷ codes "p" ∷ codes "a" ∷ []) fault.BadWords ≡ Missing setting.At
missing_address = refl

wrong_address_of_a_map : faulty_argument (codes "map" ∷ codes "--at" ∷ codes "0x10" ∷ codes "a" ∷ []) fault.BadAddress ≡ Word 2
wrong_address_of_a_map = refl

no_address_of_a_map : faulty_argument (codes "map" ∷ codes "--no-debug=1" ∷ codes "a" ∷ []) fault.BadWords ≡ Word 1
no_address_of_a_map = refl

option_twice : faulty_argument (codes "link" ∷ codes "-ob" ∷ codes "-oc" ∷ codes "a" ∷ []) fault.BadWords ≡ Word 2
option_twice = refl

plan_twice : faulty_argument (codes "dump" ∷ codes "--keep" ∷ codes "a" ∷ codes "--keep=a" ∷ codes "--plan=p" ∷ codes "--plan=p" ∷ codes "c" ∷ [])
    fault.BadWords ≡ Word 5
plan_twice = refl

no_value : faulty_argument (codes "dump" ∷ codes "--plan" ∷ codes "--no-debug" ∷ codes "a" ∷ codes "-x" ∷ []) fault.BadWords ≡ Word 1
no_value = refl

flag_with_value : faulty_argument (codes "dump" ∷ codes "--no-debug=1" ∷ codes "a" ∷ []) fault.BadWords ≡ Word 1
flag_with_value = refl

value_of_another_word : faulty_argument (codes "bin" ∷ codes "--fill" ∷ codes "0xFF" ∷ codes "-o" ∷ codes "b" ∷ codes "a" ∷ []) fault.BadByte ≡ Word 2
value_of_another_word = refl

value_of_the_same_word : faulty_argument (codes "bin" ∷ codes "a" ∷ codes "--fill=g" ∷ codes "-oc" ∷ []) fault.BadByte ≡ Word 2
value_of_the_same_word = refl

stray_bracket : faulty_argument (codes "dump" ∷ codes "--" ∷ codes "-x" ∷ codes "]" ∷ []) fault.StrayBracket ≡ Word 3
stray_bracket = refl

innermost_open_group : faulty_argument (codes "dump" ∷ codes "[" ∷ codes "a" ∷ codes "[" ∷ codes "b" ∷ codes "]" ∷ []) fault.OpenGroup ≡ Word 1
innermost_open_group = refl

no_member : faulty_argument (codes "dump" ∷ codes "a" ∷ codes "+" ∷ codes "--no-debug" ∷ []) fault.BadMembers ≡ Word 2
no_member = refl

no_file : faulty_argument (codes "map" ∷ codes "--keep" ∷ codes "a" ∷ []) fault.NoFile ≡ Nothing
no_file = refl

two_topics : faulty_argument (codes "help" ∷ codes "a" ∷ codes "b" ∷ []) fault.BadWords ≡ Word 2
two_topics = refl
