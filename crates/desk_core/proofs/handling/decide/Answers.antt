use Rattle.desk_core.proofs.Arms.{fits_at, decides_at, costs_at, import_at, languages_at}
use Rattle.desk_core.proofs.Costing.{costs_put, costs_import}
use Rattle.desk_core.proofs.handling.decide.Goals as goal

pub returns-in-PutSite-clause-decided : goal.returns-in-PutSite-clause-decided
returns-in-PutSite-clause-decided g c = decides_at c.in-PutSite.is (c.put_site.ensures _)

pub put_site-requires-clause-site : goal.put_site-requires-clause-site
put_site-requires-clause-site g c = (fits_at c.in-PutSite.is c.requires.fits).site

pub put_site-requires-clause-caller : goal.put_site-requires-clause-caller
put_site-requires-clause-caller g c = (fits_at c.in-PutSite.is c.requires.fits).caller

pub returns-in-PutMember-clause-decided : goal.returns-in-PutMember-clause-decided
returns-in-PutMember-clause-decided g c = decides_at c.in-PutMember.is (c.put_member.ensures _)

pub put_member-requires-clause-site : goal.put_member-requires-clause-site
put_member-requires-clause-site g c = (fits_at c.in-PutMember.is c.requires.fits).site

pub put_member-requires-clause-user : goal.put_member-requires-clause-user
put_member-requires-clause-user g c = (fits_at c.in-PutMember.is c.requires.fits).parts

pub returns-in-PutLanguages-clause-decided : goal.returns-in-PutLanguages-clause-decided
returns-in-PutLanguages-clause-decided g c = decides_at c.in-PutLanguages.is c.put_languages.ensures.decides

pub put_languages-requires-clause-site : goal.put_languages-requires-clause-site
put_languages-requires-clause-site g c = λ _. λ _. (fits_at c.in-PutLanguages.is c.requires.fits).site

pub put_languages-requires-clause-languages : goal.put_languages-requires-clause-languages
put_languages-requires-clause-languages g c = λ _. λ _. (fits_at c.in-PutLanguages.is c.requires.fits).parts

pub returns-in-PutLanguages-clause-counted : goal.returns-in-PutLanguages-clause-counted
returns-in-PutLanguages-clause-counted g c = costs_at c.in-PutLanguages.is c.put_languages.ensures.costs

pub returns-in-PutLanguages-clause-others : goal.returns-in-PutLanguages-clause-others
returns-in-PutLanguages-clause-others g c = λ no. absurd (no (languages_at c.in-PutLanguages.is))

pub returns-in-PutPage-clause-decided : goal.returns-in-PutPage-clause-decided
returns-in-PutPage-clause-decided g c = decides_at c.in-PutPage.is c.put_page.ensures.decides

pub put_page-requires-clause-names : goal.put_page-requires-clause-names
put_page-requires-clause-names g c = record { site = (fits_at c.in-PutPage.is c.requires.fits).site; page = (fits_at c.in-PutPage.is c.requires.fits).parts.seen.named }

pub put_page-requires-clause-address : goal.put_page-requires-clause-address
put_page-requires-clause-address g c = (fits_at c.in-PutPage.is c.requires.fits).parts.web

pub returns-in-PutPage-clause-counted : goal.returns-in-PutPage-clause-counted
returns-in-PutPage-clause-counted g c = costs_at c.in-PutPage.is (costs_put _ _ _ _ _ _ _ _ _ c.put_page.ensures.costs.counted)

pub returns-in-PutPage-clause-others : goal.returns-in-PutPage-clause-others
returns-in-PutPage-clause-others g c = λ no. c.put_page.ensures.costs.others

pub returns-in-DropPage-clause-decided : goal.returns-in-DropPage-clause-decided
returns-in-DropPage-clause-decided g c = decides_at c.in-DropPage.is (c.drop_page.ensures _)

pub drop_page-requires : goal.drop_page-requires
drop_page-requires g c = record { site = (fits_at c.in-DropPage.is c.requires.fits).site; page = (fits_at c.in-DropPage.is c.requires.fits).parts.named }

pub returns-in-Import-clause-decided : goal.returns-in-Import-clause-decided
returns-in-Import-clause-decided g c = decides_at c.in-Import.is c.import.ensures.decides

pub import-requires-clause-site : goal.import-requires-clause-site
import-requires-clause-site g c = λ _. λ _. (fits_at c.in-Import.is c.requires.fits).site

pub import-requires-clause-entries : goal.import-requires-clause-entries
import-requires-clause-entries g c = λ _. λ _. (fits_at c.in-Import.is c.requires.fits).parts

pub returns-in-Import-clause-counted : goal.returns-in-Import-clause-counted
returns-in-Import-clause-counted g c = costs_at c.in-Import.is (costs_import _ _ _ _ _ _ _ c.import.ensures.counted)

pub returns-in-Import-clause-others : goal.returns-in-Import-clause-others
returns-in-Import-clause-others g c = λ no. absurd (no (import_at c.in-Import.is))

pub returns-in-EditPage-clause-decided : goal.returns-in-EditPage-clause-decided
returns-in-EditPage-clause-decided g c = decides_at c.in-EditPage.is c.edit_page.ensures.decides

pub edit_page-requires-clause-names : goal.edit_page-requires-clause-names
edit_page-requires-clause-names g c = record { site = (fits_at c.in-EditPage.is c.requires.fits).site; page = (fits_at c.in-EditPage.is c.requires.fits).parts.named }

pub returns-in-EditPage-clause-counted : goal.returns-in-EditPage-clause-counted
returns-in-EditPage-clause-counted g c = costs_at c.in-EditPage.is c.edit_page.ensures.costs

pub returns-in-Judge-clause-decided : goal.returns-in-Judge-clause-decided
returns-in-Judge-clause-decided g c = decides_at c.in-Judge.is c.judge.ensures

pub judge-requires : goal.judge-requires
judge-requires g c = record { site = (fits_at c.in-Judge.is c.requires.fits).site; page = (fits_at c.in-Judge.is c.requires.fits).parts.named }

pub returns-in-TakeEarl-clause-decided : goal.returns-in-TakeEarl-clause-decided
returns-in-TakeEarl-clause-decided g c = decides_at c.in-TakeEarl.is (rw c.as_slice.ensures at c.take_earl.ensures)

pub take_earl-requires-clause-names : goal.take_earl-requires-clause-names
take_earl-requires-clause-names g c = record { site = (fits_at c.in-TakeEarl.is c.requires.fits).site; page = (fits_at c.in-TakeEarl.is c.requires.fits).parts.named }

pub take_earl-requires-clause-few : goal.take_earl-requires-clause-few
take_earl-requires-clause-few g c = rw c.as_slice.ensures ((fits_at c.in-TakeEarl.is c.requires.fits).parts.fit.within)

pub returns-in-GetPage-clause-decided : goal.returns-in-GetPage-clause-decided
returns-in-GetPage-clause-decided g c = decides_at c.in-GetPage.is (c.get_page.ensures _)

pub returns-in-GetNames-clause-decided : goal.returns-in-GetNames-clause-decided
returns-in-GetNames-clause-decided g c = decides_at c.in-GetNames.is (c.get_names.ensures _)

pub returns-in-GetOutcomes-clause-decided : goal.returns-in-GetOutcomes-clause-decided
returns-in-GetOutcomes-clause-decided g c = decides_at c.in-GetOutcomes.is (c.get_shown.ensures _)

pub returns-in-GetReport-clause-decided : goal.returns-in-GetReport-clause-decided
returns-in-GetReport-clause-decided g c = decides_at c.in-GetReport.is (c.get_shown-in-GetReport.ensures _)

pub returns-in-GetEarl-clause-decided : goal.returns-in-GetEarl-clause-decided
returns-in-GetEarl-clause-decided g c = decides_at c.in-GetEarl.is (c.get_shown-in-GetEarl.ensures _)

pub returns-in-SiteReport-clause-decided : goal.returns-in-SiteReport-clause-decided
returns-in-SiteReport-clause-decided g c = decides_at c.in-SiteReport.is (c.get_sheet.ensures _)

pub returns-in-SiteEarl-clause-decided : goal.returns-in-SiteEarl-clause-decided
returns-in-SiteEarl-clause-decided g c = decides_at c.in-SiteEarl.is (c.get_sheet-in-SiteEarl.ensures _)

pub returns-in-SiteCsv-clause-decided : goal.returns-in-SiteCsv-clause-decided
returns-in-SiteCsv-clause-decided g c = decides_at c.in-SiteCsv.is (c.get_sheet-in-SiteCsv.ensures _)

pub returns-in-GetVerdicts-clause-decided : goal.returns-in-GetVerdicts-clause-decided
returns-in-GetVerdicts-clause-decided g c = decides_at c.in-GetVerdicts.is (c.get_verdicts.ensures _)

pub returns-in-GetMembers-clause-decided : goal.returns-in-GetMembers-clause-decided
returns-in-GetMembers-clause-decided g c = decides_at c.in-GetMembers.is (c.get_members.ensures _)

pub returns-in-GetMemberships-clause-decided : goal.returns-in-GetMemberships-clause-decided
returns-in-GetMemberships-clause-decided g c = decides_at c.in-GetMemberships.is (c.get_memberships.ensures _)
