use Rattle.std.proofs.Common.{◌≡◌, false, tests, rules}
use Rattle.aria_tables.proofs.Lengths.{is_length}
use Rattle.acc_tree.specs.Tags.{tag_word}
use Rattle.acc_tree.proofs.Tagging.{tags_at, tag_letters, no_tag_at}
use Rattle.acc_tree.proofs.tags.tags_of_letter.Goals as goal

pub returns-in-97 : goal.returns-in-97
unfolding tag_word
returns-in-97 c = tags_at _ 97 c.in-97.is

pub returns-in-98 : goal.returns-in-98
unfolding tag_word
returns-in-98 c = tags_at _ 98 c.in-98.is

pub returns-in-99 : goal.returns-in-99
unfolding tag_word
returns-in-99 c = tags_at _ 99 c.in-99.is

pub returns-in-100 : goal.returns-in-100
unfolding tag_word
returns-in-100 c = tags_at _ 100 c.in-100.is

pub returns-in-101 : goal.returns-in-101
unfolding tag_word
returns-in-101 c = tags_at _ 101 c.in-101.is

pub returns-in-102 : goal.returns-in-102
unfolding tag_word
returns-in-102 c = tags_at _ 102 c.in-102.is

pub returns-in-104 : goal.returns-in-104
unfolding tag_word
returns-in-104 c = tags_at _ 104 c.in-104.is

pub returns-in-105 : goal.returns-in-105
unfolding tag_word
returns-in-105 c = tags_at _ 105 c.in-105.is

pub returns-in-107 : goal.returns-in-107
unfolding tag_word
returns-in-107 c = tags_at _ 107 c.in-107.is

pub returns-in-108 : goal.returns-in-108
unfolding tag_word
returns-in-108 c = tags_at _ 108 c.in-108.is

pub returns-in-109 : goal.returns-in-109
unfolding tag_word
returns-in-109 c = tags_at _ 109 c.in-109.is

pub returns-in-110 : goal.returns-in-110
unfolding tag_word
returns-in-110 c = tags_at _ 110 c.in-110.is

pub returns-in-111 : goal.returns-in-111
unfolding tag_word
returns-in-111 c = tags_at _ 111 c.in-111.is

pub returns-in-112 : goal.returns-in-112
unfolding tag_word
returns-in-112 c = tags_at _ 112 c.in-112.is

pub returns-in-113 : goal.returns-in-113
unfolding tag_word
returns-in-113 c = tags_at _ 113 c.in-113.is

pub returns-in-115 : goal.returns-in-115
unfolding tag_word
returns-in-115 c = tags_at _ 115 c.in-115.is

pub returns-in-116 : goal.returns-in-116
unfolding tag_word
returns-in-116 c = tags_at _ 116 c.in-116.is

pub returns-in-117 : goal.returns-in-117
unfolding tag_word
returns-in-117 c = tags_at _ 117 c.in-117.is

pub returns-in-118 : goal.returns-in-118
unfolding tag_word
returns-in-118 c = tags_at _ 118 c.in-118.is

pub returns-in_default : goal.returns-in_default
returns-in_default c =
    let h : is_length tag_letters c.args.letter ≡ false = search (tests, rules) in no_tag_at c.args.letter h
