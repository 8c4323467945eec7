-- What is decided on a site that is made, and on a member.
use Rattle.std.proofs.Common.{◌≡◌, ℕ, List, Option, Some, None, Err, option_map, refl, ap, ◌∙◌}
use Rattle.keep_core.specs.declared.site.Site.{Site}
use Rattle.keep_core.specs.declared.tables.KeptSite.{KeptSite}
use Rattle.keep_core.specs.declared.tables.Tables.{Tables}
use Rattle.keep_core.specs.Tables.{kept_site, site_of}
use Rattle.desk_core.specs.declared.refusal.Refusal.TheVariants.{SiteExists}
use Rattle.desk_core.specs.State.{site_state, state_of, site_at}
use Rattle.desk_core.specs.Members.{put_site}
use Rattle.desk_core.proofs.Views.{site_seen}

there_by : (name caller : List ℕ) (o : Option KeptSite) (s : Site) → option_map (λ (k : KeptSite). k.site) o ≡ Some s → put_site name caller (option_map site_state o) ≡ Err SiteExists
there_by name caller None s is = cc
there_by name caller (Some k) s is = refl

pub site_is_there : (name caller : List ℕ) (t : Tables) (s : Site) → site_of name t ≡ Some s → put_site name caller (site_at name (state_of t)) ≡ Err SiteExists
site_is_there name caller t s is = ap (put_site name caller) (site_seen name t) ∙ there_by name caller (kept_site name t) s is

new_by : (name caller : List ℕ) (o : Option KeptSite) → option_map (λ (k : KeptSite). k.site) o ≡ None → put_site name caller (option_map site_state o) ≡ put_site name caller None
new_by name caller None is = refl
new_by name caller (Some k) is = cc

pub site_is_new : (name caller : List ℕ) (t : Tables) → site_of name t ≡ None → put_site name caller (site_at name (state_of t)) ≡ put_site name caller None
site_is_new name caller t is = ap (put_site name caller) (site_seen name t) ∙ new_by name caller (kept_site name t) is
