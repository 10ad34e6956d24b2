mod NodeOrder
